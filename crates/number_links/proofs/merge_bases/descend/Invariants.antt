use Rattle.number_links.specs.Numbers.{has}
use Rattle.number_links.specs.Descent.{waits}
use Rattle.number_links.specs.Facts.{goes_on}
use Rattle.number_links.specs.declared.along.Along.TheVariants.{Parents}
use Rattle.number_links.proofs.BestLemmas.{IsDescent}
use Rattle.number_links.proofs.merge_bases.descend.Given as goal

-- all keys from the last one on are done
abbrev pub invariant-waiting : goal.invariant-waiting
invariant-waiting l = IsDescent (goes_on Parents (record { links = l.ground.links.now; times = l.ground.times.now })) (has l.ground.allowed.now) l.ground.generations.now l.a l.b l.below (waits l.waiting.of_a) (waits l.waiting.of_b) (waits l.waiting.outdone) (has l.found)

-- the keys that are not done
abbrev pub decreases-waiting : goal.decreases-waiting
decreases-waiting l = l.below
