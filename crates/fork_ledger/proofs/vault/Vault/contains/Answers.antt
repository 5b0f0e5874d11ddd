use Rattle.std.proofs.Common.{ap, sym, ◌∙◌}
use Rattle.std.specs.FinMap as map
use Rattle.fork_ledger.proofs.ShownLemmas.{there_shown}
use Rattle.fork_ledger.proofs.vault.Vault.contains.Goals as goal

pub returns : goal.returns
returns g c =
    c.contains.ensures ∙ sym (there_shown c.self.inside.files.contents c.self.inside.holdings.ledgers c.args.tenant.now) ∙ ap (λ s. map.contains_key s.tenants c.args.tenant.now) c.self.view_is
