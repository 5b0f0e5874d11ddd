use Rattle.std.proofs.Common.{◌∷◌, [], ap, subst, sym, ◌∙◌}
use Rattle.std.proofs.lemmas.Result.{on_ok_weaker}
use Rattle.looks.specs.Growth.{GrowsAmong}
use Rattle.object_table.specs.Rows.{places_of}
use Rattle.fork_ledger.specs.Shown.{tenants_of}
use Rattle.fork_ledger.specs.Store.{Recalls}
use Rattle.fork_ledger.specs.Surveyed.{IsKnown}
use Rattle.fork_ledger.specs.Tenants.{VaultState}
use Rattle.fork_ledger.proofs.RecallLemmas.{recalled_memory, recalled_stored, recalled_tenants}
use Rattle.fork_ledger.proofs.LedLemmas.{led_same}
use Rattle.fork_ledger.proofs.vault.Vault.recall.Goals as goal

pub invariant_of-self : goal.invariant_of-self
invariant_of-self g c = λ h.
    let files = c.self.inside.files.contents in
    let kept = (c.self.invariant h).0 in (
      record {
        stored = recalled_stored c.recall.result c.args.tenant.now c.args.name files c.self.inside.holdings.ledgers c.recall.new.holdings.ledgers c.self.inside.files.honest c.args.kind c.args.length h (subst (λ (s : VaultState). IsKnown s.honest s.files c.args.name c.args.kind c.args.length) (sym c.self.view_is) c.requires) c.recall.ensures.ok c.recall.ensures.err kept.stored;
        covers = c.recall.ensures.covers files kept.covers;
      },
      led_same c.self.inside.holdings.links c.recall.new.holdings.links files c.recall.ensures.links (c.self.invariant h).1,
    )

pub returns-clause-recalls : goal.returns-clause-recalls
returns-clause-recalls g c =
    let files = c.self.inside.files.contents in
    let honest = c.self.inside.files.honest in
    let old = c.self.inside.holdings.ledgers in
    let new = c.recall.new.holdings.ledgers in
    let t = c.args.tenant.now in
    on_ok_weaker c.recall.result (λ is.
    subst (λ (s : VaultState). Recalls s.honest t c.args.name s.files s.tenants (tenants_of files new)) c.self.view_is
    (recalled_tenants t c.args.name files old new honest c.args.kind c.args.length (subst (λ (s : VaultState). IsKnown s.honest s.files c.args.name c.args.kind c.args.length) (sym c.self.view_is) c.requires) is)) c.recall.ensures.ok

pub returns-clause-grows : goal.returns-clause-grows
returns-clause-grows g c = subst (λ (s : VaultState). GrowsAmong (c.args.name ∷ []) s.places (places_of c.recall.new.holdings.catalogue)) c.self.view_is c.recall.ensures.grows

pub returns-clause-cause : goal.returns-clause-cause
returns-clause-cause g c = λ h.
    let was = ap (λ (s : VaultState). s.honest) c.self.view_is ∙ h in
    recalled_memory c.recall.result c.args.name c.self.inside.files.contents c.self.inside.holdings.ledgers c.self.inside.files.honest c.args.kind c.args.length was
    (subst (λ (s : VaultState). IsKnown s.honest s.files c.args.name c.args.kind c.args.length) (sym c.self.view_is) c.requires) ((c.self.invariant was).0.stored) c.recall.ensures.clash
