use Rattle.std.proofs.Common.{ap, option_map, sym, ◌∙◌}
use Rattle.fork_ledger.specs.Private.{held_in}
use Rattle.fork_ledger.specs.Tenants.{private_of}
use Rattle.fork_ledger.specs.Words.{held_of_word}
use Rattle.fork_ledger.proofs.ToldLemmas.{known_shown}
use Rattle.fork_ledger.proofs.vault.Vault.kind_of.Goals as goal

pub returns : goal.returns
returns g c =
    c.held_of.ensures ∙ ap (option_map held_of_word) c.word.ensures ∙ sym (known_shown c.self.inside.files.contents c.self.inside.holdings.ledgers c.args.tenant.now c.args.name)
    ∙ ap (λ s. held_in (private_of s.tenants c.args.tenant.now) c.args.name) c.self.view_is
