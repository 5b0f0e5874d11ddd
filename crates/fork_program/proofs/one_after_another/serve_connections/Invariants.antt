use Rattle.fork_program.specs.Serving.{AreVisits}
use Rattle.fork_program.proofs.one_after_another.serve_connections.Given as goal

-- each connection so far was a visit
abbrev pub invariant-loop : goal.invariant-loop
invariant-loop g l = AreVisits l.fn.host l.host l.counter
