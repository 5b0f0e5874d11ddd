use Rattle.std.proofs.Common.{ℕ, ap, sym, subst, ◌∙◌}
use Rattle.std.specs.FinMap as map
use Rattle.std.proofs.lemmas.Result.{on_err_weaker, on_ok_weaker}
use Rattle.looks.specs.Looks.{Walks}
use Rattle.looks.specs.Places.{at_start}
use Rattle.looks.specs.Slices.{Collects}
use Rattle.object_table.specs.Rows.{places_of}
use Rattle.object_table.specs.Holders.{is_held_in}
use Rattle.fork_ledger.specs.Kept.{TakesAway}
use Rattle.fork_ledger.specs.Shown.{tenants_of}
use Rattle.fork_ledger.specs.Taken.{is_taken}
use Rattle.fork_ledger.specs.Tenants.{VaultState, shape_of}
use Rattle.fork_ledger.proofs.KeepingLemmas.{kept_after, tenants_keep}
use Rattle.fork_ledger.proofs.ShownShapes.{shape_any}
use Rattle.fork_ledger.proofs.SliceLemmas.{exact_files, sharp_files}
use Rattle.fork_ledger.proofs.TakenLemmas.{same_tests, taken_shown}
use Rattle.fork_ledger.proofs.vault.Vault.collect.Goals as goal

pub invariant_of-self : goal.invariant_of-self
invariant_of-self g c = λ h.
    let was = sym c.collect.ensures.honest ∙ h in (
      kept_after c.self.inside.files.contents c.collect.new.files.contents c.self.inside.holdings.ledgers c.collect.new.holdings.ledgers (places_of c.self.inside.holdings.catalogue) (places_of c.collect.new.holdings.catalogue)
          c.collect.ensures.ledgers (c.collect.ensures.keeps was) (c.collect.ensures.covers was) (c.self.invariant was).0,
      c.collect.ensures.led was (c.self.invariant was).1,
    )

pub returns-clause-kept : goal.returns-clause-kept
returns-clause-kept g c = λ h.
    let was = ap (λ s. s.honest) c.self.view_is ∙ h in
    let new = c.collect.new.files.contents in
    ap (tenants_of new) c.collect.ensures.ledgers ∙ tenants_keep c.self.inside.holdings.ledgers c.self.inside.files.contents new (c.collect.ensures.keeps was) ∙ ap (λ s. s.tenants) c.self.view_is

pub returns-clause-stays : goal.returns-clause-stays
returns-clause-stays g c = λ h q held.
    let was = ap (λ s. s.honest) c.self.view_is ∙ h in
    let old = c.self.inside.files.contents in
    c.collect.ensures.keeps was q (sym (taken_shown old c.self.inside.holdings.ledgers q) ∙ ap (λ s. is_taken s.tenants q) c.self.view_is ∙ held) ∙ ap (λ s. map.get s.files q) c.self.view_is

pub returns-clause-collects : goal.returns-clause-collects
returns-clause-collects g c =
    let first = places_of c.self.inside.holdings.catalogue in
    let last = places_of c.collect.new.holdings.catalogue in
    on_ok_weaker c.collect.result (λ looks.
    subst (λ (v : VaultState). Collects (is_taken v.tenants) v.places last) c.self.view_is
    (subst (λ held. Collects held first last) (sym (same_tests c.self.inside.files.contents c.self.inside.holdings.ledgers)) looks)) c.collect.ensures.collects

pub returns-clause-fault : goal.returns-clause-fault
returns-clause-fault g c =
    let first = places_of c.self.inside.holdings.catalogue in
    let last = places_of c.collect.new.holdings.catalogue in
    on_err_weaker c.collect.result (λ looks.
    subst (λ (v : VaultState). (n : ℕ) × Walks (is_taken v.tenants) n (at_start v.places) last) c.self.view_is
    (subst (λ held. (n : ℕ) × Walks held n (at_start first) last) (sym (same_tests c.self.inside.files.contents c.self.inside.holdings.ledgers)) looks)) c.collect.ensures.fault

pub returns-clause-shape : goal.returns-clause-shape
returns-clause-shape g c =
    let new = c.collect.new.files.contents in
    ap (λ m. shape_of (tenants_of new m)) c.collect.ensures.ledgers ∙ shape_any c.self.inside.files.contents new c.self.inside.holdings.ledgers ∙ ap (λ s. shape_of s.tenants) c.self.view_is

pub returns-clause-sharp : goal.returns-clause-sharp
returns-clause-sharp g c = λ h.
    let was = ap (λ s. s.honest) c.self.view_is ∙ h in
    let m = c.self.inside.holdings.ledgers in
    let first = places_of c.self.inside.holdings.catalogue in
    let last = places_of c.collect.new.holdings.catalogue in
    let kept = kept_after c.self.inside.files.contents c.collect.new.files.contents m c.collect.new.holdings.ledgers first last
    c.collect.ensures.ledgers (c.collect.ensures.keeps was) (c.collect.ensures.covers was) (c.self.invariant was).0 in
    on_ok_weaker c.collect.result (λ round. sharp_files c.collect.new.files.contents c.collect.new.holdings.ledgers last kept
    (λ q listed. ap (λ x. is_held_in x q) c.collect.ensures.ledgers ∙ c.sharp_collection.ensures (is_held_in m) first last round q listed)) c.collect.ensures.collects

pub returns-clause-exact : goal.returns-clause-exact
returns-clause-exact g c = λ h.
    let was = ap (λ s. s.honest) c.self.view_is ∙ h in
    let m = c.self.inside.holdings.ledgers in
    let first = places_of c.self.inside.holdings.catalogue in
    let last = places_of c.collect.new.holdings.catalogue in
    let kept = kept_after c.self.inside.files.contents c.collect.new.files.contents m c.collect.new.holdings.ledgers first last
    c.collect.ensures.ledgers (c.collect.ensures.keeps was) (c.collect.ensures.covers was) (c.self.invariant was).0 in
    on_ok_weaker c.collect.result (λ round. exact_files c.collect.new.files.contents c.collect.new.holdings.ledgers last kept
    (λ q listed. ap (λ x. is_held_in x q) c.collect.ensures.ledgers ∙ c.sharp_collection.ensures (is_held_in m) first last round q listed)) c.collect.ensures.collects

pub returns-clause-away : goal.returns-clause-away
returns-clause-away g c = λ h.
    let was = ap (λ s. s.honest) c.self.view_is ∙ h in
    on_ok_weaker c.collect.result (λ away. subst (λ (s : VaultState). TakesAway s.files c.collect.new.files.contents) c.self.view_is away) (c.collect.ensures.away was)
