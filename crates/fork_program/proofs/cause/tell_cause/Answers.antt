use Rattle.fork_program.specs.Causes.{Tried}
use Rattle.fork_program.proofs.cause.tell_cause.Goals as goal

pub returns-in-Some-trials_for : goal.returns-in-Some-trials_for
returns-in-Some-trials_for g c = Tried _ (rw c.as_slice.ensures.value at c.in-Some-trials_for.ensures) c.in-Some.ensures c.tell_first.ensures
