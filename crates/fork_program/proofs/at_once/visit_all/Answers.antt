use Rattle.fork_program.specs.Serving.{Asked}
use Rattle.fork_program.proofs.at_once.visit_all.Goals as goal

pub returns-in-Ok-clause-visited : goal.returns-in-Ok-clause-visited
returns-in-Ok-clause-visited g c = let ran = c.serve_round.ensures.ran in Asked ran.0 ran.1 ran.2

pub returns-in-Err-clause-visited : goal.returns-in-Err-clause-visited
returns-in-Err-clause-visited g c = let ran = c.serve_round.ensures.ran in Asked ran.0 ran.1 ran.2
