use Rattle.std.proofs.Common.{is_some, ap, ◌∙◌}
use Rattle.std.specs.FinMap.{get}
use Rattle.object_table.proofs.LinkLemmas.{some_timed}
use Rattle.object_table.proofs.holdings.Holdings.knows.Goals as goal

pub returns : goal.returns
returns c = c.is_some.ensures ∙ ap is_some c.time.ensures ∙ some_timed (get c.args.self.now.links c.args.name)
