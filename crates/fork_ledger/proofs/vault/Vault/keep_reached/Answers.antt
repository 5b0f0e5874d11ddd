use Rattle.std.proofs.Common.{ap, subst, sym}
use Rattle.object_table.specs.Rows.{places_of}
use Rattle.number_links.specs.declared.along.Along.TheVariants.{Links}
use Rattle.fork_ledger.specs.Kept.{IsKept}
use Rattle.fork_ledger.proofs.BetweenLemmas.{led_rested}
use Rattle.fork_ledger.proofs.vault.Vault.keep_reached.Goals as goal

pub invariant_of-self : goal.invariant_of-self
invariant_of-self g c = λ h.
    let files = c.self.inside.files.contents in
    let before = c.self.inside.holdings in
    let kept = c.self.invariant h in (
      subst (λ catalogue. IsKept c.keep_reached.new.self.ledgers files (places_of catalogue)) (sym c.keep_reached.ensures.catalogue) (subst (λ m. IsKept m files (places_of before.catalogue)) (sym c.keep_reached.ensures.ledgers) kept.0),
      led_rested files before.ledgers c.args.tenant.now before.links Links kept.0.stored kept.1 c.keep_reached.new.self.links c.keep_reached.ensures.links,
    )
