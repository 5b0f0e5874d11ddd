use Rattle.std.proofs.Common.{ap, sym, ◌∙◌}
use Rattle.fork_reach.specs.Objects.{use_of}
use Rattle.object_table.specs.Ledgers.{ledger_at}
use Rattle.fork_ledger.specs.Tenants.{private_of}
use Rattle.fork_ledger.specs.Used.{capped}
use Rattle.fork_ledger.proofs.ShownLemmas.{private_shown}
use Rattle.fork_ledger.proofs.ToldLemmas.{used_shown}
use Rattle.fork_ledger.proofs.vault.Vault.used.Goals as goal

pub returns : goal.returns
returns g c =
    let files = c.self.inside.files.contents in
    c.used.ensures ∙ ap capped (used_shown files (ledger_at c.self.inside.holdings.ledgers c.args.tenant.now) ∙ ap (λ own. use_of own.visible) (sym (private_shown files c.self.inside.holdings.ledgers c.args.tenant.now))
    ∙ ap (λ s. use_of (private_of s.tenants c.args.tenant.now).visible) c.self.view_is)
