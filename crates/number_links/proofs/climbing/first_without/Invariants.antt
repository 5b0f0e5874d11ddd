use Rattle.std.proofs.Common.{◌<◌, ◌≤◌, ℕ, get_or}
use Rattle.number_links.specs.Generations.{generation}
use Rattle.number_links.proofs.climbing.first_without.Given as goal

-- the parents from the first place on so far have generations
abbrev pub invariant-loop-at : goal.invariant-loop-at
invariant-loop-at l = (i : ℕ) → l.fn.from ≤ i → i < l.at → 1 < generation l.generations (get_or l.parents i 0)
