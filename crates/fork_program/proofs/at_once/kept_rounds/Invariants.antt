use Rattle.std.proofs.Common.{◌<◌, length}
use Rattle.fork_program.proofs.VisitLemmas.{IsPaused}
use Rattle.fork_program.proofs.at_once.kept_rounds.Given as goal

-- rounds led here
abbrev pub invariant-loop : goal.invariant-loop
invariant-loop g l = IsPaused l.fn.host l.host × (0 < length l.buffer)
