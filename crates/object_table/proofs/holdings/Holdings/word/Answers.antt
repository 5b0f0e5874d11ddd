use Rattle.std.proofs.Common.{ap, ◌∙◌}
use Rattle.std.specs.FinMap.{get}
use Rattle.object_table.specs.Holders.{HoldingsState}
use Rattle.object_table.specs.Ledgers.{word_at}
use Rattle.object_table.specs.Views.{words_under}
use Rattle.object_table.proofs.ChangeLemmas.{ledger_is}
use Rattle.object_table.proofs.holdings.Holdings.word.Goals as goal

pub returns : goal.returns
returns c =
    let rows = c.self.inside.table.entries in
    c.word_under.ensures ∙ ap (λ o. get (words_under rows o) c.args.name) c.get.ensures ∙ ap (λ w. get w c.args.name) (ledger_is rows c.self.inside.ledgers c.args.tenant.now)
    ∙ ap (λ (s : HoldingsState). word_at s.ledgers c.args.tenant.now c.args.name) c.self.view_is
