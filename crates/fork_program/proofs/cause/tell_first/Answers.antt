use Rattle.fork_program.proofs.cause.tell_first.Goals as goal

pub returns-in-Err : goal.returns-in-Err
returns-in-Err g c = rw c.loop-trial.invariant at c.write_cause.ensures
