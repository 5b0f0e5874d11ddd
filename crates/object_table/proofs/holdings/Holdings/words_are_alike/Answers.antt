use Rattle.std.proofs.Common.{subst}
use Rattle.object_table.specs.Adopted.{AllAlike}
use Rattle.object_table.specs.Holders.{HoldingsState}
use Rattle.object_table.proofs.ChangeLemmas.{all_alike}
use Rattle.object_table.proofs.holdings.Holdings.words_are_alike.Goals as goal

pub returns : goal.returns
returns c = subst (λ (s : HoldingsState). AllAlike s.ledgers) c.self.view_is (all_alike c.self.inside.table.entries c.self.inside.ledgers c.invariant.ensures.rows)
