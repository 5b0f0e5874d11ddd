use Rattle.std.proofs.Common.{ap, nat_le, sym, ◌∙◌}
use Rattle.fork_reach.specs.Objects.{use_of}
use Rattle.object_table.specs.Ledgers.{ledger_at}
use Rattle.fork_ledger.specs.Private.{both_of}
use Rattle.fork_ledger.specs.Tenants.{private_of}
use Rattle.fork_ledger.proofs.ShownLemmas.{private_shown}
use Rattle.fork_ledger.proofs.ToldLemmas.{total_shown}
use Rattle.fork_ledger.proofs.vault.Vault.is_within.Goals as goal

pub returns : goal.returns
returns g c =
    let files = c.self.inside.files.contents in
    c.is_within.ensures
    ∙ ap (λ n. nat_le n c.args.limit) (total_shown files (ledger_at c.self.inside.holdings.ledgers c.args.tenant.now) ∙ ap (λ own. use_of (both_of own)) (sym (private_shown files c.self.inside.holdings.ledgers c.args.tenant.now))
    ∙ ap (λ s. use_of (both_of (private_of s.tenants c.args.tenant.now))) c.self.view_is)
