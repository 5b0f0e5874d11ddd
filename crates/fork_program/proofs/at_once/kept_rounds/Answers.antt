use Rattle.std.proofs.Common.{◌<◌, ℕ, refl, sym, subst}
use Rattle.fork_program.specs.Serving.{Idle}
use Rattle.fork_program.proofs.VisitLemmas.{paused, served_to_end}
use Rattle.fork_program.proofs.at_once.kept_rounds.Goals as goal

pub returns-then-is_done-clause-served : goal.returns-then-is_done-clause-served
returns-then-is_done-clause-served g c = served_to_end _ _ _ c.loop.invariant.0 (Idle refl)

pub returns-in_err-attended_kept-clause-served : goal.returns-in_err-attended_kept-clause-served
returns-in_err-attended_kept-clause-served g c = served_to_end _ _ _ c.loop.invariant.0 (Idle refl)

pub returns-in_err-visit_all-clause-served : goal.returns-in_err-visit_all-clause-served
returns-in_err-visit_all-clause-served g c = served_to_end _ _ _ c.loop.invariant.0 c.visit_all.ensures.visited

pub returns-in_err-ended-clause-served : goal.returns-in_err-ended-clause-served
returns-in_err-ended-clause-served g c = served_to_end _ _ _ c.loop.invariant.0 c.visit_all.ensures.visited

pub returns-in_err-settle_after-clause-served : goal.returns-in_err-settle_after-clause-served
returns-in_err-settle_after-clause-served g c =
    served_to_end _ _ _ (paused _ _ _ _ c.loop.invariant.0 c.visit_all.ensures.visited c.settle_after.ensures.saved) (Idle refl)

pub loop-preserved : goal.loop-preserved
loop-preserved g c = (paused _ _ _ _ c.loop.invariant.0 c.visit_all.ensures.visited c.settle_after.ensures.saved, subst (λ (n : ℕ). 0 < n) (sym c.visit_all.ensures.buffer) c.loop.invariant.1)

pub returns-clause-served : goal.returns-clause-served
returns-clause-served g c = served_to_end _ _ _ c.loop.invariant.0 (Idle refl)
