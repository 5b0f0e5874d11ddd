-- The handle of a tenant's part, call after call.
use Rattle.std.proofs.Common.{◌≡◌, ℕ, ◌≤◌, IsTrue, List, [], refl, sym, ap, subst, ◌∙◌}
use Rattle.std.specs.FinMap.{empty}
use Rattle.git_name.specs.Object.{Object}
use Rattle.fork_reach.specs.Objects.{with_objects}
use Rattle.fork_reach.proofs.MeasureLemmas.{same_use}
use Rattle.fork_ledger.specs.AllStaged.{with_all_staged}
use Rattle.fork_ledger.specs.Private.{Private, both_of}
use Rattle.fork_ledger.specs.Tenants.{VaultState, private_of}
use Rattle.fork_ledger.proofs.AllStagedLemmas.{all_staged_seen, both_all}
use Rattle.fork_ledger.proofs.BothLemmas.{both_quiet}
use Rattle.looks.proofs.GrowthLemmas.{grows_none, grows_same, none_came}
use Rattle.fork_host.specs.declared.own.Own.{Own}
use Rattle.fork_host.specs.Handle.{IsSame, Ready, Touches, Uses, both_by, staged_by, visible_by}
use Rattle.fork_host.specs.Own.{ChangesTenant, IsOwn, IsReady, KeepsSeen, MadeBy, both_in, visible_in}
use Rattle.fork_host.proofs.OwnLemmas.{own_made, own_same}

pub same_own : {S : Type 0} (own : Own S) → IsSame own own
same_own own = record { vault = refl; tenant = refl }

pub same_then : {S : Type 0} (a b c : Own S) → IsSame a b → IsSame b c → IsSame a c
same_then a b c first then = record { vault = then.vault ∙ first.vault; tenant = then.tenant ∙ first.tenant }

-- it was not used
pub touched_none : {S : Type 0} (names : List (List ℕ)) (own : Own S) → Touches names own own
touched_none names own = record { same = same_own own; own = own_same own.vault.now own.tenant.now; grows = grows_none names own.vault.now.places }

-- it was used, and no name was added
pub touched : {S : Type 0} (names : List (List ℕ)) (old new : Own S) → Touches [] old new → Touches names old new
touched names old new by = record { same = by.same; own = by.own; grows = grows_same names old.vault.now.places new.vault.now.places (none_came old.vault.now.places new.vault.now.places by.grows) }

-- it was used, and what is staged stays
pub used : {S : Type 0} (names : List (List ℕ)) (old new : Own S) → Uses names old new → Touches names old new
used names old new by = record { same = by.same; own = by.own; grows = by.grows }

-- what holds of the tenant afterwards held of it before
pub of_first : {S : Type 0} (first new : Own S) (P : List ℕ → Type 0) → IsSame first new → P new.tenant.now → P first.tenant.now
of_first first new P same holds = subst (λ r. P r.now) same.tenant holds

-- it is ready if what it sees stays
pub ready_still : {S : Type 0} (first now : Own S) (limit : ℕ) → IsSame first now → IsOwn first.tenant.now first.vault.now now.vault.now → KeepsSeen first.tenant.now first.vault.now now.vault.now → Ready first limit → Ready now limit
ready_still first now limit same own seen ready = subst (λ r. IsReady now.vault.now r.now limit) (sym same.tenant) (record {
  there = own.there first.tenant.now ∙ ready.there;
  within = subst (λ n. n ≤ limit) (sym (same_use (visible_in now.vault.now first.tenant.now) (visible_by first) seen.shape)) ready.within;
})

-- what was sent is staged beside what is seen, if nothing was staged
pub sent_beside : {S : Type 0} (first staged : Own S) (sent : List Object) → IsSame first staged → IsTrue first.vault.now.honest → staged_by first ≡ empty → ChangesTenant first.tenant.now (MadeBy (with_all_staged sent)) first.vault.now staged.vault.now
    → both_by staged ≡ with_objects (visible_by staged) sent
sent_beside first staged sent same honest quiet changes =
    let own = private_of first.vault.now.tenants first.tenant.now in
    let is = (own_made first.vault.now staged.vault.now first.tenant.now (with_all_staged sent) changes).exact honest in
    let seen : visible_in staged.vault.now first.tenant.now ≡ visible_by first = ap (λ (p : Private). p.visible) is ∙ all_staged_seen sent own in
    ap (λ r. both_in staged.vault.now r.now) same.tenant ∙ ap both_of is ∙ both_all sent own
    ∙ ap (λ objects. with_objects objects sent) (both_quiet own quiet ∙ sym seen ∙ sym (ap (λ r. visible_in staged.vault.now r.now) same.tenant))

-- a handle of this vault and this tenant is ready if they are
pub ready_of : {S : Type 0} (own : Own S) (vault : VaultState) (tenant : List ℕ) (limit : ℕ) → own.vault.now ≡ vault → own.tenant.now ≡ tenant → IsReady vault tenant limit → Ready own limit
ready_of own vault tenant limit lent for ready = subst (λ t. IsReady own.vault.now t limit) (sym for) (subst (λ v. IsReady v tenant limit) (sym lent) ready)
