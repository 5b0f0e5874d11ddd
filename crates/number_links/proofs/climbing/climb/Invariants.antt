use Rattle.number_links.specs.Generations.{AreGenerations}
use Rattle.number_links.proofs.climbing.climb.Given as goal

abbrev pub invariant-steps : goal.invariant-steps
invariant-steps l = AreGenerations (record { links = l.links; times = l.times }) l.generations
