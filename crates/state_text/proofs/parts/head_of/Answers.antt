use Rattle.state_text.proofs.NewLemmas.{none_read}
use Rattle.state_text.proofs.parts.head_of.Goals as goal

pub returns-clause-none : goal.returns-clause-none
returns-clause-none c = none_read c.read.result c.args.rest.now c.args.prefix.now c.in-Some.short.now c.in-Some.ensures.found c.read.ensures.value
