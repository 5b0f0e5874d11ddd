use Rattle.std.proofs.Common.{ap, refl, sym, subst, ◌∙◌}
use Rattle.std.specs.FinMap as map
use Rattle.std.proofs.lemmas.Result.{IfOk-weaker}
use Rattle.object_table.specs.Rows.{places_of}
use Rattle.fork_ledger.specs.Checked.{WasAsked}
use Rattle.fork_ledger.specs.Harms.{AreFound}
use Rattle.fork_ledger.specs.Shown.{tenants_of}
use Rattle.fork_ledger.specs.Taken.{is_taken}
use Rattle.fork_ledger.specs.Tenants.{VaultState, shape_of}
use Rattle.fork_ledger.proofs.HarmLemmas.{found_harms, sound_harms}
use Rattle.fork_ledger.proofs.ShownShapes.{shape_any}
use Rattle.fork_ledger.proofs.TakenLemmas.{held_taken, taken_shown}
use Rattle.fork_ledger.proofs.vault.Vault.faulty.Goals as goal

pub returns-clause-found : goal.returns-clause-found
returns-clause-found g c =
    let files = c.self.inside.files.contents in
    let ledgers = c.self.inside.holdings.ledgers in
    IfOk-weaker c.check_all.result _ _ (λ harms has.
    subst (λ (s : VaultState). AreFound (map.entries harms) s) c.self.view_is (found_harms _ files ledgers harms refl has)) c.check_all.ensures.checks

pub returns-clause-sound : goal.returns-clause-sound
returns-clause-sound g c = λ h.
    let was = ap (λ (s : VaultState). s.honest) c.self.view_is ∙ h in
    let files = c.self.inside.files.contents in
    let ledgers = c.self.inside.holdings.ledgers in
    let vault : VaultState = record { tenants = tenants_of files ledgers; files = files; honest = c.self.inside.files.honest; failures = c.self.inside.files.failures; durability = c.self.inside.files.durability; places = places_of c.self.inside.holdings.catalogue } in
    IfOk-weaker c.check_all.result _ _ (λ harms has.
    sound_harms vault (map.entries harms) was (c.self.invariant was).0.stored (λ q is. held_taken files ledgers q (sym (taken_shown files ledgers q) ∙ is)) (found_harms vault files ledgers harms refl has)) c.check_all.ensures.checks

pub returns-clause-asked : goal.returns-clause-asked
returns-clause-asked g c =
    let files = c.self.inside.files.contents in
    let ledgers = c.self.inside.holdings.ledgers in
    IfOk-weaker c.check_all.result _ _ (λ harms asked.
    subst (λ (s : VaultState). WasAsked s.failures (is_taken s.tenants)) c.self.view_is (λ q is. asked q (sym (taken_shown files ledgers q) ∙ is))) c.check_all.ensures.asked

pub returns-clause-shape : goal.returns-clause-shape
returns-clause-shape g c = shape_any c.self.inside.files.contents c.check_all.new.files.contents c.self.inside.holdings.ledgers ∙ ap (λ s. shape_of s.tenants) c.self.view_is
