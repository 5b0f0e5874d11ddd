use Rattle.std.proofs.Common.{◌≡◌}
use Rattle.fork_program.proofs.cause.tell_first.Given as goal

-- nothing was told yet
abbrev pub invariant-loop-trial : goal.invariant-loop-trial
invariant-loop-trial g l = l.told.items ≡ l.fn.told.items
