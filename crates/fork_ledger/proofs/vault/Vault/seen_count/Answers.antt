use Rattle.std.proofs.Common.{ap, sym, ◌∙◌}
use Rattle.std.specs.FinMap as map
use Rattle.object_table.specs.Ledgers.{ledger_at}
use Rattle.fork_ledger.specs.Tenants.{private_of}
use Rattle.fork_ledger.proofs.ShownLemmas.{private_shown}
use Rattle.fork_ledger.proofs.ToldLemmas.{count_shown}
use Rattle.fork_ledger.proofs.vault.Vault.seen_count.Goals as goal

pub returns : goal.returns
returns g c =
    let files = c.self.inside.files.contents in
    c.seen_count.ensures
    ∙ count_shown files (ledger_at c.self.inside.holdings.ledgers c.args.tenant.now) ∙ ap (λ own. map.len own.visible) (sym (private_shown files c.self.inside.holdings.ledgers c.args.tenant.now))
    ∙ ap (λ s. map.len (private_of s.tenants c.args.tenant.now).visible) c.self.view_is
