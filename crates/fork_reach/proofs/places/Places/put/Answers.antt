use Rattle.std.proofs.Common.{sym, ◌∙◌}
use Rattle.fork_reach.proofs.MarkLemmas.{set_marked, set_nowhere}
use Rattle.fork_reach.proofs.places.Places.put.Goals as goal

pub returns-in-Some-clause-marked : goal.returns-in-Some-clause-marked
returns-in-Some-clause-marked c = λ other among. set_marked c.args.self.now.names.now.keys c.args.marks.now c.args.name c.in-Some.at c.requires (sym c.place.ensures ∙ c.in-Some.is) other

pub returns-in_default-clause-marked : goal.returns-in_default-clause-marked
returns-in_default-clause-marked c = λ other among. set_nowhere c.args.self.now.names.now.keys c.args.marks.now c.args.name (sym c.place.ensures ∙ c.in_default.is) other among
