use Rattle.number_links.specs.Generations.{AreGenerations}
use Rattle.number_links.proofs.climbing.climb_all.Given as goal

abbrev pub invariant-loop-root : goal.invariant-loop-root
invariant-loop-root l = AreGenerations (record { links = l.links; times = l.times }) l.generations
