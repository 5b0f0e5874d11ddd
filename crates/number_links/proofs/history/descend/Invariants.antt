use Rattle.number_links.specs.Numbers.{has}
use Rattle.number_links.specs.Descent.{waits}
use Rattle.number_links.specs.Facts.{goes_on}
use Rattle.number_links.specs.declared.along.Along.TheVariants.{Parents}
use Rattle.number_links.proofs.HistoryLemmas.{IsHistory}
use Rattle.number_links.proofs.history.descend.Given as goal

-- all keys from the last one on are done
abbrev pub invariant-sides : goal.invariant-sides
invariant-sides l = IsHistory (goes_on Parents (record { links = l.ground.links.now; times = l.ground.times.now })) (has l.ground.allowed.now) l.ground.generations.now l.wanted l.excluded l.below (waits l.sides.wanted) (waits l.sides.excluded) (has l.found)

-- the keys that are not done
abbrev pub decreases-sides : goal.decreases-sides
decreases-sides l = l.below
