use Rattle.std.proofs.Common.{ap, subst, ◌∙◌}
use Rattle.object_table.specs.Rows.{places_of}
use Rattle.fork_ledger.specs.Shown.{tenants_of}
use Rattle.fork_ledger.specs.Store.{HoldOne}
use Rattle.fork_ledger.specs.Swept.{IsAccounted}
use Rattle.fork_ledger.specs.Tenants.{VaultState}
use Rattle.fork_ledger.proofs.AdoptedStore.{hold_one}
use Rattle.fork_ledger.proofs.SliceLemmas.{accounted}
use Rattle.fork_ledger.proofs.vault.Vault.invariant.Goals as goal

pub returns-clause-accounted : goal.returns-clause-accounted
returns-clause-accounted g c = λ h.
    let kept = (c.self.invariant (ap (λ s. s.honest) c.self.view_is ∙ h)).0 in
    subst (λ (s : VaultState). IsAccounted s) c.self.view_is (accounted c.self.inside.files.contents c.self.inside.holdings.ledgers (places_of c.self.inside.holdings.catalogue) _ _ _ kept)

pub returns-clause-one : goal.returns-clause-one
returns-clause-one g c = λ h.
    let kept = (c.self.invariant (ap (λ s. s.honest) c.self.view_is ∙ h)).0 in
    let files = c.self.inside.files.contents in
    subst (λ (s : VaultState). HoldOne s.tenants) c.self.view_is (hold_one (tenants_of files c.self.inside.holdings.ledgers) files kept.stored)
