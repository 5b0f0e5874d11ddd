use Rattle.fork_program.specs.Causes.{Line}
use Rattle.fork_program.proofs.cause.write_cause.Goals as goal

pub returns-in-Ok : goal.returns-in-Ok
returns-in-Ok c = Line _ _ c.in-Ok.ensures.ok
