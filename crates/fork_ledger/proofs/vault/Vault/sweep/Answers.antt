use Rattle.std.proofs.Common.{◌<◌, ℕ, ap, sym, subst, ◌∙◌}
use Rattle.std.specs.FinMap as map
use Rattle.std.proofs.lemmas.Result.{on_err_weaker, on_ok_weaker}
use Rattle.looks.specs.Looks.{Looks}
use Rattle.looks.specs.Slices.{Sweeps}
use Rattle.object_table.specs.Rows.{places_of}
use Rattle.fork_ledger.specs.Kept.{IsExact, TakesAway}
use Rattle.fork_ledger.specs.Shown.{tenants_of}
use Rattle.fork_ledger.specs.Taken.{is_taken}
use Rattle.fork_ledger.specs.Tenants.{VaultState, shape_of}
use Rattle.fork_ledger.proofs.KeepingLemmas.{kept_after, tenants_keep}
use Rattle.fork_ledger.proofs.ShownShapes.{shape_any}
use Rattle.fork_ledger.proofs.SliceLemmas.{accounted}
use Rattle.fork_ledger.proofs.TakenLemmas.{same_tests, taken_shown}
use Rattle.fork_ledger.proofs.vault.Vault.sweep.Goals as goal

pub invariant_of-self : goal.invariant_of-self
invariant_of-self g c = λ h.
    let was = sym c.sweep.ensures.honest ∙ h in (
      kept_after c.self.inside.files.contents c.sweep.new.files.contents c.self.inside.holdings.ledgers c.sweep.new.holdings.ledgers (places_of c.self.inside.holdings.catalogue) (places_of c.sweep.new.holdings.catalogue)
          c.sweep.ensures.ledgers (c.sweep.ensures.keeps was) (c.sweep.ensures.covers was) (c.self.invariant was).0,
      c.sweep.ensures.led was (c.self.invariant was).1,
    )

pub returns-clause-kept : goal.returns-clause-kept
returns-clause-kept g c = λ h.
    let was = ap (λ s. s.honest) c.self.view_is ∙ h in
    let new = c.sweep.new.files.contents in
    ap (tenants_of new) c.sweep.ensures.ledgers ∙ tenants_keep c.self.inside.holdings.ledgers c.self.inside.files.contents new (c.sweep.ensures.keeps was) ∙ ap (λ s. s.tenants) c.self.view_is

pub returns-clause-stays : goal.returns-clause-stays
returns-clause-stays g c = λ h q held.
    let was = ap (λ s. s.honest) c.self.view_is ∙ h in
    let old = c.self.inside.files.contents in
    c.sweep.ensures.keeps was q (sym (taken_shown old c.self.inside.holdings.ledgers q) ∙ ap (λ s. is_taken s.tenants q) c.self.view_is ∙ held) ∙ ap (λ s. map.get s.files q) c.self.view_is

pub returns-clause-sweeps : goal.returns-clause-sweeps
returns-clause-sweeps g c =
    let first = places_of c.self.inside.holdings.catalogue in
    let last = places_of c.sweep.new.holdings.catalogue in
    on_ok_weaker c.sweep.result (λ looks.
    subst (λ (v : VaultState). Sweeps (is_taken v.tenants) c.args.most v.places last) c.self.view_is
    (subst (λ held. Sweeps held c.args.most first last) (sym (same_tests c.self.inside.files.contents c.self.inside.holdings.ledgers)) looks)) c.sweep.ensures.sweeps

pub returns-clause-fault : goal.returns-clause-fault
returns-clause-fault g c =
    let first = places_of c.self.inside.holdings.catalogue in
    let last = places_of c.sweep.new.holdings.catalogue in
    on_err_weaker c.sweep.result (λ looks.
    subst (λ (v : VaultState). (n : ℕ) × (n < c.args.most) × Looks (is_taken v.tenants) n v.places last) c.self.view_is
    (subst (λ held. (n : ℕ) × (n < c.args.most) × Looks held n first last) (sym (same_tests c.self.inside.files.contents c.self.inside.holdings.ledgers)) looks)) c.sweep.ensures.fault

pub returns-clause-shape : goal.returns-clause-shape
returns-clause-shape g c =
    let new = c.sweep.new.files.contents in
    ap (λ m. shape_of (tenants_of new m)) c.sweep.ensures.ledgers ∙ shape_any c.self.inside.files.contents new c.self.inside.holdings.ledgers ∙ ap (λ s. shape_of s.tenants) c.self.view_is

pub returns-clause-accounted : goal.returns-clause-accounted
returns-clause-accounted g c = λ h.
    let was = ap (λ s. s.honest) c.self.view_is ∙ h in
    accounted c.sweep.new.files.contents c.sweep.new.holdings.ledgers (places_of c.sweep.new.holdings.catalogue) _ _ _
    (kept_after c.self.inside.files.contents c.sweep.new.files.contents c.self.inside.holdings.ledgers c.sweep.new.holdings.ledgers (places_of c.self.inside.holdings.catalogue) (places_of c.sweep.new.holdings.catalogue)
    c.sweep.ensures.ledgers (c.sweep.ensures.keeps was) (c.sweep.ensures.covers was) (c.self.invariant was).0)

pub returns-clause-exact : goal.returns-clause-exact
returns-clause-exact g c = λ h.
    let was = ap (λ s. s.honest) c.self.view_is ∙ h in
    on_ok_weaker c.sweep.result (λ keeps exact. keeps (subst (λ (s : VaultState). IsExact s.files s.places) (sym c.self.view_is) exact)) (c.sweep.ensures.exact was)

pub returns-clause-away : goal.returns-clause-away
returns-clause-away g c = λ h.
    let was = ap (λ s. s.honest) c.self.view_is ∙ h in
    on_ok_weaker c.sweep.result (λ away. subst (λ (s : VaultState). TakesAway s.files c.sweep.new.files.contents) c.self.view_is away) (c.sweep.ensures.away was)
