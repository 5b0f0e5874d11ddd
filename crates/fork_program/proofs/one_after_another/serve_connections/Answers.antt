use Rattle.fork_program.proofs.VisitLemmas.{one_more, one_visit}
use Rattle.fork_program.proofs.one_after_another.serve_connections.Goals as goal

pub loop-preserved : goal.loop-preserved
loop-preserved g c = one_more _ _ _ _ c.loop.invariant (one_visit _ _ c.connection.ensures)
