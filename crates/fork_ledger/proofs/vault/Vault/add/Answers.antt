use Rattle.std.proofs.Common.{ap, sym, subst, ◌∙◌}
use Rattle.std.proofs.lemmas.Result.{on_ok_weaker}
use Rattle.object_table.specs.Rows.{places_of}
use Rattle.fork_ledger.specs.Kept.{Covers}
use Rattle.fork_ledger.specs.Shown.{tenants_of}
use Rattle.fork_ledger.specs.Store.{IsStored}
use Rattle.fork_ledger.specs.Tenants.{with_tenant}
use Rattle.fork_ledger.proofs.ShownLemmas.{added_shown}
use Rattle.fork_ledger.proofs.StoredLemmas.{stored_new, whichever}
use Rattle.fork_ledger.proofs.LedLemmas.{led_same}
use Rattle.fork_ledger.proofs.vault.Vault.add.Goals as goal

pub invariant_of-self : goal.invariant_of-self
invariant_of-self g c = λ h.
    let files = c.self.inside.files.contents in
    let kept = (c.self.invariant h).0 in (
      record {
        stored = whichever (IsStored (tenants_of files c.add.new.self.ledgers) files) c.add.result c.add.ensures.ok c.add.ensures.err
            (λ is. subst (λ m. IsStored m files) (sym (ap (tenants_of files) is ∙ added_shown files c.self.inside.holdings.ledgers c.args.tenant)) (stored_new (tenants_of files c.self.inside.holdings.ledgers) c.args.tenant files kept.stored))
            (λ same. subst (λ m. IsStored (tenants_of files m) files) (sym same) kept.stored);
        covers = subst (λ catalogue. Covers files (places_of catalogue)) (sym c.add.ensures.catalogue) kept.covers;
      },
      led_same c.self.inside.holdings.links c.add.new.self.links files c.add.ensures.links (c.self.invariant h).1,
    )

pub returns-clause-ok : goal.returns-clause-ok
returns-clause-ok g c =
    let files = c.self.inside.files.contents in
    on_ok_weaker c.add.result (λ is. ap (tenants_of files) is ∙ added_shown files c.self.inside.holdings.ledgers c.args.tenant ∙ ap (λ s. with_tenant s.tenants c.args.tenant) c.self.view_is) c.add.ensures.ok
