use Rattle.fork_program.proofs.VisitLemmas.{IsPaused}
use Rattle.fork_program.proofs.one_after_another.visits.Given as goal

-- it paused before each visit but the first one
abbrev pub invariant-loop : goal.invariant-loop
invariant-loop g l = IsPaused l.fn.host l.host
