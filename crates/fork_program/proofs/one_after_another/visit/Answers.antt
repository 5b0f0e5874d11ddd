use Rattle.fork_program.proofs.VisitLemmas.{visited}
use Rattle.fork_program.proofs.one_after_another.visit.Goals as goal

pub returns-in_default-clause-visited : goal.returns-in_default-clause-visited
returns-in_default-clause-visited g c = visited _ _ _ _ _ _ c.serve_kept.ensures.served c.serve_kept.ensures.stopped

pub returns-in-Ok-Clean-clause-visited : goal.returns-in-Ok-Clean-clause-visited
returns-in-Ok-Clean-clause-visited g c = visited _ _ _ _ _ _ c.serve_kept.ensures.served c.serve_kept.ensures.stopped

pub returns-in-Err-Journal-clause-visited : goal.returns-in-Err-Journal-clause-visited
returns-in-Err-Journal-clause-visited g c = visited _ _ _ _ _ _ c.serve_kept.ensures.served c.serve_kept.ensures.stopped
