use Rattle.std.proofs.Common.{◌+◌, length}
use Rattle.number_links.specs.Numbers.{has}
use Rattle.number_links.specs.Known.{RestsOrIsKnown, linked}
use Rattle.number_links.specs.Seeing.{unseen}
use Rattle.number_links.proofs.WalkLemmas.{Walks}
use Rattle.number_links.proofs.taking.reach_all.Given as goal

-- what is seen so far is right
abbrev pub invariant-waiting : goal.invariant-waiting
invariant-waiting g l =
    let rests = g.R.Resting.rests l.resting in
    Walks (RestsOrIsKnown l.links rests) (linked l.links) (has l.allowed) l.roots (has l.seen) l.waiting.items

-- the numbers that may be gone to and are not seen, and those that wait
abbrev pub decreases-waiting : goal.decreases-waiting
decreases-waiting g l = unseen 4294967296 (has l.allowed) (has l.seen) + length l.waiting.items
