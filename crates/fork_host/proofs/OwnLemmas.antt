-- What staging, publishing, discarding and keeping leave of the vault.
use Rattle.std.proofs.Common.{◌≡◌, ℕ, Bool, true, false, cond, None, IsTrue, List, Result, Ok, Err, refl, sym, ap, subst, ◌∙◌}
use Rattle.std.specs.Prelude.{OnErr, OnOk}
use Rattle.std.specs.FinMap.{contains_key, empty, get, get-empty, retain_keys, same_map}
use Rattle.std.specs.Ordering.{eq_by_cmp}
use Rattle.git_name.specs.Name.{name_cmp}
use Rattle.git_name.proofs.Names.{name_total, name_exact}
use Rattle.git_name.specs.Object.{Object}
use Rattle.fork_reach.specs.Objects.{Measures, measures_of, with_object}
use Rattle.fork_reach.specs.Source.{Objects}
use Rattle.fork_reach.proofs.KeptObjects.{tied_names}
use Rattle.fork_ledger.specs.Private.{Private, private_measures, with_discarded, with_kept, with_published, with_staged}
use Rattle.fork_ledger.specs.Store.{Becomes}
use Rattle.fork_ledger.specs.Tenants.{Tenants, VaultState, at_tenant, private_of, shape_of}
use Rattle.fork_ledger.proofs.BothLemmas.{both_more, none_of, same_measures, same_tenants_there}
use Rattle.fork_ledger.proofs.SeenLemmas.{get_kept}
use Rattle.fork_ledger.proofs.ShapeLemmas.{Respects, respects_discarded, respects_kept, respects_published, respects_staged, shape_at}
use Rattle.fork_ledger.proofs.TenantLemmas.{by_test, private_at, private_others, same_tenants, self_apart, there_still}
use Rattle.fork_host.specs.Own.{ChangesTenant, Has, IsOwn, KeepsSeen, KeepsStaged, LeavesOthers, MadeBy, SeesOnly, Stages, both_in, staged_in, visible_in}

-- other tenants, as one tenant's private maps change
leaves_all : (tenants : Tenants) (own : List ℕ) → LeavesOthers own tenants tenants
leaves_all tenants own = record { there = λ q. refl; others = λ q differs. refl }

leaves_more : (before old : Tenants) (own : List ℕ) (change : Private → Private) → LeavesOthers own before old → LeavesOthers own before (at_tenant old own change)
leaves_more before old own change leaves = record {
  there = λ q. there_still old own q change ∙ leaves.there q;
  others = λ q differs. private_others old own q change differs ∙ leaves.others q differs;
}

-- the tenant's private maps do not change
pub changes_none : (Way : Private → Private → Type 0) (vault : VaultState) (own : List ℕ) → Way (private_of vault.tenants own) (private_of vault.tenants own) → ChangesTenant own Way vault vault
changes_none Way vault own way = record {
  tenants = vault.tenants;
  leaves = leaves_all vault.tenants own;
  way = way;
  shown = record { shape = refl; exact = λ _. refl };
  honest = refl;
}

-- they change, and then the vault is only read
pub changes_still : {Way : Private → Private → Type 0} (before old new : VaultState) (own : List ℕ) → Becomes shape_of old.honest old.tenants new.tenants → new.honest ≡ old.honest → ChangesTenant own Way before old → ChangesTenant own Way before new
changes_still before old new own stays honest changes = record {
  tenants = changes.tenants;
  leaves = changes.leaves;
  way = changes.way;
  shown = record {
    shape = stays.shape ∙ changes.shown.shape;
    exact = λ is. stays.exact (sym honest ∙ is) ∙ changes.shown.exact (sym honest ∙ is);
  };
  honest = honest ∙ changes.honest;
}

-- one call makes this change; it makes none if the vault is only read
pub made : (old new : VaultState) (own : List ℕ) (change : Private → Private) → contains_key old.tenants own ≡ true → Becomes shape_of old.honest (at_tenant old.tenants own change) new.tenants → new.honest ≡ old.honest → ChangesTenant own (MadeBy change) old new
made old new own change there becomes honest = record {
  tenants = at_tenant old.tenants own change;
  leaves = leaves_more old.tenants old.tenants own change (leaves_all old.tenants own);
  way = private_at old.tenants own change there;
  shown = record { shape = becomes.shape; exact = λ is. becomes.exact (sym honest ∙ is) };
  honest = honest;
}

pub made_none : (old new : VaultState) (own : List ℕ) → Becomes shape_of old.honest old.tenants new.tenants → new.honest ≡ old.honest → ChangesTenant own (MadeBy (λ p. p)) old new
made_none old new own stays honest = changes_still old old new own stays honest (changes_none (MadeBy (λ p. p)) old own refl)

-- for a call whose clause holds over any store
pub became : (honest : Bool) (this new : Tenants) → new ≡ this → Becomes shape_of honest this new
became honest this new is = record { shape = ap shape_of is; exact = λ _. is }

pub made_just : (old new : VaultState) (own : List ℕ) (change : Private → Private) → contains_key old.tenants own ≡ true → new.tenants ≡ at_tenant old.tenants own change → new.honest ≡ old.honest → ChangesTenant own (MadeBy change) old new
made_just old new own change there is honest = made old new own change there (became old.honest (at_tenant old.tenants own change) new.tenants is) honest

-- for the result of a call
pub made_ok : {A E : Type 0} (r : Result A E) (old new : VaultState) (own : List ℕ) (change : Private → Private) → contains_key old.tenants own ≡ true → OnOk r (shape_of new.tenants ≡ shape_of (at_tenant old.tenants own change))
    → (IsTrue old.honest → OnOk r (new.tenants ≡ at_tenant old.tenants own change)) → new.honest ≡ old.honest → OnOk r (ChangesTenant own (MadeBy change) old new)
made_ok (Ok a) old new own change there shape same honest = made old new own change there (record { shape = shape; exact = same }) honest
made_ok (Err e) old new own change there shape same honest = tt

pub made_err : {A E : Type 0} (r : Result A E) (old new : VaultState) (own : List ℕ) → OnErr r (shape_of new.tenants ≡ shape_of old.tenants) → (IsTrue old.honest → OnErr r (new.tenants ≡ old.tenants)) → new.honest ≡ old.honest
    → OnErr r (ChangesTenant own (MadeBy (λ p. p)) old new)
made_err (Ok a) old new own shape same honest = tt
made_err (Err e) old new own shape same honest = made_none old new own (record { shape = shape; exact = same }) honest

-- if a call leaves the other tenants, its change of this one is all that it does to the tenants
made_at : (old new : Tenants) (own : List ℕ) (change : Private → Private) → contains_key old own ≡ true → LeavesOthers own old new → private_of new own ≡ change (private_of old own) → new ≡ at_tenant old own change
made_at old new own change there leaves is =
    same_tenants new (at_tenant old own change) (λ q. leaves.there q ∙ sym (there_still old own q change))
    (λ q. by_test (eq_by_cmp name_cmp q own) _ (λ same. itself q (tied_names q own same))
    (λ apart. leaves.others q (self_apart q own apart) ∙ sym (private_others old own q change (self_apart q own apart))))
  where
    itself : (q : List ℕ) → q ≡ own → private_of new q ≡ private_of (at_tenant old own change) q
    itself q same = ap (private_of new) same ∙ is ∙ sym (private_at old own change there) ∙ ap (private_of (at_tenant old own change)) (sym same)

-- they change, and then one call makes this change
pub changes_then : (Way Next : Private → Private → Type 0) (before old new : VaultState) (own : List ℕ) (change : Private → Private) → contains_key old.tenants own ≡ true → Respects change
    → ((p : Private) → Way (private_of before.tenants own) p → Next (private_of before.tenants own) (change p)) → ChangesTenant own Way before old → ChangesTenant own (MadeBy change) old new → ChangesTenant own Next before new
changes_then Way Next before old new own change there respects next first then =
    let is = made_at old.tenants then.tenants own change there then.leaves then.way in
    let here = sym (same_tenants_there first.tenants old.tenants own first.shown.shape) ∙ there in
    record {
      tenants = at_tenant first.tenants own change;
      leaves = leaves_more before.tenants first.tenants own change first.leaves;
      way = subst (Next (private_of before.tenants own)) (sym (private_at first.tenants own change here)) (next (private_of first.tenants own) first.way);
      shown = record {
        shape = then.shown.shape ∙ ap shape_of is ∙ shape_at old.tenants first.tenants own change respects first.shown.shape;
        exact = λ trusted. then.shown.exact trusted ∙ is ∙ ap (λ m. at_tenant m own change) (first.shown.exact (sym then.honest ∙ trusted));
      };
      honest = then.honest ∙ first.honest;
    }

-- the tenant still exists
pub here_changed : {Way : Private → Private → Type 0} (before now : VaultState) (own : List ℕ) → contains_key before.tenants own ≡ true → ChangesTenant own Way before now → contains_key now.tenants own ≡ true
here_changed before now own there changes = same_tenants_there changes.tenants now.tenants own changes.shown.shape ∙ changes.leaves.there own ∙ there

-- objects are staged: at first none, then one more
pub stages_none : (vault : VaultState) (own : List ℕ) → ChangesTenant own (Stages (both_in vault own)) vault vault
stages_none vault own = changes_none (Stages (both_in vault own)) vault own (record { sees = refl; staged = refl })

pub stages_more : (before old new : VaultState) (own : List ℕ) (both : Objects) (object : Object) → contains_key old.tenants own ≡ true → Becomes shape_of old.honest (at_tenant old.tenants own (with_staged object)) new.tenants → new.honest ≡ old.honest
    → ChangesTenant own (Stages both) before old → ChangesTenant own (Stages (with_object both object)) before new
stages_more before old new own both object there becomes honest changes =
    changes_then (Stages both) (Stages (with_object both object)) before old new own (with_staged object) there (respects_staged object)
    (λ p stages. record { sees = stages.sees; staged = both_more p object ∙ ap (λ objects. with_object objects object) stages.staged }) changes (made old new own (with_staged object) there becomes honest)

-- then they are discarded, or published
pub discarded : (before old new : VaultState) (own : List ℕ) (both : Objects) → contains_key old.tenants own ≡ true → ChangesTenant own (Stages both) before old → ChangesTenant own (MadeBy with_discarded) old new
    → ChangesTenant own (SeesOnly (visible_in before own)) before new
discarded before old new own both there =
    changes_then (Stages both) (SeesOnly (visible_in before own)) before old new own with_discarded there respects_discarded (λ p stages. record { sees = stages.sees; stages = refl })

pub published : (before old new : VaultState) (own : List ℕ) (both : Objects) → contains_key old.tenants own ≡ true → ChangesTenant own (Stages both) before old → ChangesTenant own (MadeBy with_published) old new
    → ChangesTenant own (SeesOnly both) before new
published before old new own both there = changes_then (Stages both) (SeesOnly both) before old new own with_published there respects_published (λ p stages. record { sees = stages.staged; stages = refl })

-- some of what is seen is kept, in a vault that was read before
pub kept : (old mid new : VaultState) (own : List ℕ) (names : List ℕ → Bool) → contains_key old.tenants own ≡ true → shape_of mid.tenants ≡ shape_of old.tenants → (IsTrue old.honest → mid.tenants ≡ old.tenants)
    → mid.honest ≡ old.honest → new.tenants ≡ at_tenant mid.tenants own (with_kept names) → new.honest ≡ mid.honest → ChangesTenant own (Has (retain_keys (visible_in old own) names) (staged_in old own)) old new
kept old mid new own names there shape same honest is still =
    let here = same_tenants_there old.tenants mid.tenants own shape ∙ there in
    changes_then (MadeBy (λ p. p)) (Has (retain_keys (visible_in old own) names) (staged_in old own)) old mid new own (with_kept names) here (respects_kept names)
    (λ p stays. record { sees = ap (λ (p : Private). retain_keys p.visible names) stays; stages = ap (λ (p : Private). p.staged) stays }) (made_none old mid own (record { shape = shape; exact = same }) honest)
    (made_just mid new own (with_kept names) here is still)

-- nothing of what is seen stays
none_kept : (objects : Objects) (names : List ℕ → Bool) → ((name : List ℕ) → names name ≡ false) → retain_keys objects names ≡ empty
none_kept objects names none = same_map name_total name_exact _ _ (λ q. get_kept objects names q ∙ ap (λ b. cond b (get objects q) None) (none q) ∙ sym (get-empty name_cmp q))

pub emptied : (first mid new : VaultState) (own : List ℕ) (objects : Objects) (names : List ℕ → Bool) → contains_key first.tenants own ≡ true → ((name : List ℕ) → names name ≡ false) → new.tenants ≡ at_tenant mid.tenants own (with_kept names)
    → new.honest ≡ mid.honest → ChangesTenant own (SeesOnly objects) first mid → ChangesTenant own (SeesOnly empty) first new
emptied first mid new own objects names there none is still changes =
    let here = here_changed first mid own there changes in
    changes_then (SeesOnly objects) (SeesOnly empty) first mid new own (with_kept names) here (respects_kept names) (λ p has. record { sees = none_kept p.visible names none; stages = has.stages }) changes
    (made_just mid new own (with_kept names) here is still)

-- only a tenant's part was used
pub own_of : {Way : Private → Private → Type 0} (old new : VaultState) (own : List ℕ) → ChangesTenant own Way old new → IsOwn own old new
own_of old new own changes = record {
  there = λ t. same_tenants_there changes.tenants new.tenants t changes.shown.shape ∙ changes.leaves.there t;
  shape = λ t differs. same_measures changes.tenants new.tenants t changes.shown.shape ∙ ap private_measures (changes.leaves.others t differs);
  others = λ honest t differs. ap (λ m. private_of m t) (changes.shown.exact (changes.honest ∙ honest)) ∙ changes.leaves.others t differs;
  honest = changes.honest;
}

pub own_either : {A E : Type 0} (Way Other : Private → Private → Type 0) (r : Result A E) (old new : VaultState) (own : List ℕ) → OnOk r (ChangesTenant own Way old new) → OnErr r (ChangesTenant own Other old new) → IsOwn own old new
own_either Way Other (Ok a) old new own done failed = own_of old new own done
own_either Way Other (Err e) old new own done failed = own_of old new own failed

-- what it sees and has staged is shown: over any store its measures, over an honest one the objects
pub own_shown : {Way : Private → Private → Type 0} (old new : VaultState) (own : List ℕ) (changes : ChangesTenant own Way old new) → Becomes private_measures old.honest (private_of changes.tenants own) (private_of new.tenants own)
own_shown old new own changes = record {
  shape = same_measures changes.tenants new.tenants own changes.shown.shape;
  exact = λ honest. ap (λ m. private_of m own) (changes.shown.exact (changes.honest ∙ honest));
}

pub own_made : (old new : VaultState) (own : List ℕ) (change : Private → Private) → ChangesTenant own (MadeBy change) old new → Becomes private_measures old.honest (change (private_of old.tenants own)) (private_of new.tenants own)
own_made old new own change changes =
    let shown = own_shown old new own changes in
    record { shape = shown.shape ∙ ap private_measures changes.way; exact = λ honest. shown.exact honest ∙ changes.way }

pub seen_measures : {staged : Objects} (old new : VaultState) (own : List ℕ) (objects : Objects) → ChangesTenant own (Has objects staged) old new → measures_of (visible_in new own) ≡ measures_of objects
seen_measures old new own objects changes = ap (λ (p : Measures × Measures). p.0) (own_shown old new own changes).shape ∙ ap measures_of changes.way.sees

pub seen_itself : {staged : Objects} (old new : VaultState) (own : List ℕ) (objects : Objects) → ChangesTenant own (Has objects staged) old new → IsTrue old.honest → visible_in new own ≡ objects
seen_itself old new own objects changes honest = ap (λ (p : Private). p.visible) ((own_shown old new own changes).exact honest) ∙ changes.way.sees

-- what it sees stays if the change does not touch it
pub seen_kept : (old new : VaultState) (own : List ℕ) (change : Private → Private) → ((p : Private) → (change p).visible ≡ p.visible) → ChangesTenant own (MadeBy change) old new → KeepsSeen own old new
seen_kept old new own change still changes =
    let shown = own_made old new own change changes in
    record {
      shape = ap (λ (p : Measures × Measures). p.0) shown.shape ∙ ap measures_of (still (private_of old.tenants own));
      exact = λ honest. ap (λ (p : Private). p.visible) (shown.exact honest) ∙ still (private_of old.tenants own);
    }

-- what it has staged stays if the way keeps it
pub staged_kept : {Way : Private → Private → Type 0} (old new : VaultState) (own : List ℕ) → ChangesTenant own Way old new → ((p : Private) → Way (private_of old.tenants own) p → p.staged ≡ staged_in old own) → KeepsStaged own old new
staged_kept old new own changes still =
    let shown = own_shown old new own changes in
    let same = still (private_of changes.tenants own) changes.way in
    record {
      shape = ap (λ (p : Measures × Measures). p.1) shown.shape ∙ ap measures_of same;
      exact = λ honest. ap (λ (p : Private). p.staged) (shown.exact honest) ∙ same;
    }

-- nothing is staged afterwards, so if nothing was staged before, that stays
pub none_staged : (old new : VaultState) (own : List ℕ) (objects : Objects) → ChangesTenant own (SeesOnly objects) old new → staged_in new own ≡ empty
none_staged old new own objects changes = none_of (staged_in new own) (ap (λ (p : Measures × Measures). p.1) (own_shown old new own changes).shape ∙ ap measures_of changes.way.stages)

pub still_none : (old new : VaultState) (own : List ℕ) → staged_in old own ≡ empty → staged_in new own ≡ empty → KeepsStaged own old new
still_none old new own before after = record { shape = ap measures_of (after ∙ sym before); exact = λ _. after ∙ sym before }

-- the vault was only read
pub own_read : (old new : VaultState) (own : List ℕ) → shape_of new.tenants ≡ shape_of old.tenants → (IsTrue old.honest → new.tenants ≡ old.tenants) → new.honest ≡ old.honest → IsOwn own old new
own_read old new own shape same honest = own_of old new own (made_none old new own (record { shape = shape; exact = same }) honest)

pub staged_read : (old new : VaultState) (own : List ℕ) → shape_of new.tenants ≡ shape_of old.tenants → (IsTrue old.honest → new.tenants ≡ old.tenants) → KeepsStaged own old new
staged_read old new own shape same = record {
  shape = ap (λ (p : Measures × Measures). p.1) (same_measures old.tenants new.tenants own shape);
  exact = λ is. ap (λ m. (private_of m own).staged) (same is);
}

pub own_same : (vault : VaultState) (own : List ℕ) → IsOwn own vault vault
own_same vault own = own_read vault vault own refl (λ _. refl) refl

pub staged_same : (vault : VaultState) (own : List ℕ) → KeepsStaged own vault vault
staged_same vault own = staged_read vault vault own refl (λ _. refl)

pub seen_read : (old new : VaultState) (own : List ℕ) → shape_of new.tenants ≡ shape_of old.tenants → (IsTrue old.honest → new.tenants ≡ old.tenants) → KeepsSeen own old new
seen_read old new own shape same = record {
  shape = ap (λ (p : Measures × Measures). p.0) (same_measures old.tenants new.tenants own shape);
  exact = λ is. ap (λ m. (private_of m own).visible) (same is);
}

pub seen_same : (vault : VaultState) (own : List ℕ) → KeepsSeen own vault vault
seen_same vault own = seen_read vault vault own refl (λ _. refl)

-- the effect of a change on the tenant's private maps
pub changed_at : (old new : Tenants) (own : List ℕ) (change : Private → Private) → contains_key old own ≡ true → new ≡ at_tenant old own change → private_of new own ≡ change (private_of old own)
changed_at old new own change there is = ap (λ m. private_of m own) is ∙ private_at old own change there

-- it was used in one call and in the next
pub own_then : (own : List ℕ) (a b c : VaultState) → IsOwn own a b → IsOwn own b c → IsOwn own a c
own_then own a b c first then = record {
  there = λ t. then.there t ∙ first.there t;
  shape = λ t differs. then.shape t differs ∙ first.shape t differs;
  others = λ is t differs. then.others (first.honest ∙ is) t differs ∙ first.others is t differs;
  honest = then.honest ∙ first.honest;
}

-- what is staged stays if it stays in each of two calls
pub staged_then : (own : List ℕ) (a b c : VaultState) → b.honest ≡ a.honest → KeepsStaged own a b → KeepsStaged own b c → KeepsStaged own a c
staged_then own a b c honest first then = record { shape = then.shape ∙ first.shape; exact = λ is. then.exact (honest ∙ is) ∙ first.exact is }
