use Rattle.std.proofs.Common.{refl}
use Rattle.fork_program.specs.Serving.{Idle}
use Rattle.fork_program.proofs.VisitLemmas.{paused, served_to_end}
use Rattle.fork_program.proofs.one_after_another.visits.Goals as goal

pub returns-in_err-check_folder-clause-served : goal.returns-in_err-check_folder-clause-served
returns-in_err-check_folder-clause-served g c = served_to_end _ _ _ c.loop.invariant (Idle refl)

pub returns-in_err-goes_on-clause-served : goal.returns-in_err-goes_on-clause-served
returns-in_err-goes_on-clause-served g c = served_to_end _ _ _ c.loop.invariant c.visit.ensures.visited

pub returns-then-not-goes_on-clause-served : goal.returns-then-not-goes_on-clause-served
returns-then-not-goes_on-clause-served g c = served_to_end _ _ _ c.loop.invariant c.visit.ensures.visited

pub returns-in_err-settle_after-clause-served : goal.returns-in_err-settle_after-clause-served
returns-in_err-settle_after-clause-served g c =
    served_to_end _ _ _ (paused _ _ _ _ c.loop.invariant c.visit.ensures.visited c.settle_after.ensures.saved) (Idle refl)

pub loop-preserved : goal.loop-preserved
loop-preserved g c = paused _ _ _ _ c.loop.invariant c.visit.ensures.visited c.settle_after.ensures.saved

pub returns-clause-served : goal.returns-clause-served
returns-clause-served g c = served_to_end _ _ _ c.loop.invariant (Idle refl)
