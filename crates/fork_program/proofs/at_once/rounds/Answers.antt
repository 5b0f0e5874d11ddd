use Rattle.std.proofs.Common.{◌<◌, ℕ, refl, sym, subst}
use Rattle.fork_program.specs.Serving.{Idle}
use Rattle.fork_program.proofs.HostingLemmas.{unsaved}
use Rattle.fork_program.proofs.VisitLemmas.{paused, served_to_end}
use Rattle.fork_program.proofs.at_once.rounds.Goals as goal

pub returns-then-is_done-clause-served : goal.returns-then-is_done-clause-served
returns-then-is_done-clause-served g c = served_to_end _ _ _ c.loop.invariant.0 (Idle refl)

pub returns-in_err-attended-clause-served : goal.returns-in_err-attended-clause-served
returns-in_err-attended-clause-served g c = served_to_end _ _ _ c.loop.invariant.0 (Idle refl)

pub returns-in_err-tidied-clause-served : goal.returns-in_err-tidied-clause-served
returns-in_err-tidied-clause-served g c = served_to_end _ _ _ c.loop.invariant.0 c.visit_all-round.ensures.visited

pub loop-preserved : goal.loop-preserved
loop-preserved g c = (paused _ _ _ _ c.loop.invariant.0 c.visit_all-round.ensures.visited (unsaved _), subst (λ (n : ℕ). 0 < n) (sym c.visit_all-round.ensures.buffer) c.loop.invariant.1)

pub returns-clause-served : goal.returns-clause-served
returns-clause-served g c = served_to_end _ _ _ c.loop.invariant.0 (Idle refl)
