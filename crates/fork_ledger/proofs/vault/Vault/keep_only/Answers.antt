use Rattle.std.proofs.Common.{ap, sym, subst, ◌∙◌}
use Rattle.object_table.specs.Words.{kept_words}
use Rattle.fork_ledger.specs.Kept.{Covers}
use Rattle.fork_ledger.specs.Private.{with_kept}
use Rattle.fork_ledger.specs.Shown.{tenants_of}
use Rattle.fork_ledger.specs.Store.{IsStored}
use Rattle.fork_ledger.specs.Tenants.{at_tenant}
use Rattle.fork_ledger.proofs.OwnLemmas.{kept_own}
use Rattle.fork_ledger.proofs.ShownLemmas.{changed_shown}
use Rattle.fork_ledger.proofs.StoredLemmas.{brings_kept, stored_at}
use Rattle.fork_ledger.proofs.LedLemmas.{led_same}
use Rattle.fork_ledger.proofs.vault.Vault.keep_only.Goals as goal

pub invariant_of-self : goal.invariant_of-self
invariant_of-self g c = λ h.
    let files = c.self.inside.files.contents in
    let kept = (c.self.invariant h).0 in
    let is = ap (tenants_of files) c.keep_only.ensures.ledgers ∙ changed_shown files c.self.inside.holdings.ledgers c.args.tenant.now (kept_words (g.N.NameSet.names c.args.names.now)) (with_kept (g.N.NameSet.names c.args.names.now)) (kept_own (g.N.NameSet.names c.args.names.now) files) in (
      record {
        stored = subst (λ m. IsStored m files) (sym is) (stored_at (tenants_of files c.self.inside.holdings.ledgers) c.args.tenant.now files (with_kept (g.N.NameSet.names c.args.names.now)) (brings_kept (g.N.NameSet.names c.args.names.now)) kept.stored);
        covers = subst (λ p. Covers files p) (sym c.keep_only.ensures.places) kept.covers;
      },
      led_same c.self.inside.holdings.links c.keep_only.new.self.links files c.keep_only.ensures.links (c.self.invariant h).1,
    )

pub returns-clause-tenants : goal.returns-clause-tenants
returns-clause-tenants g c =
    let files = c.self.inside.files.contents in
    ap (tenants_of files) c.keep_only.ensures.ledgers ∙ changed_shown files c.self.inside.holdings.ledgers c.args.tenant.now (kept_words (g.N.NameSet.names c.args.names.now)) (with_kept (g.N.NameSet.names c.args.names.now)) (kept_own (g.N.NameSet.names c.args.names.now) files)
    ∙ ap (λ s. at_tenant s.tenants c.args.tenant.now (with_kept (g.N.NameSet.names c.args.names.now))) c.self.view_is
