use Rattle.std.proofs.Common.{◌≡◌, ◌⊎◌, ◌+◌, ℕ, List, [], Some, true, is_some, length}
use Rattle.number_links.specs.Numbers.{has}
use Rattle.number_links.specs.Known.{known, linked}
use Rattle.number_links.specs.Seeing.{unseen}
use Rattle.number_links.proofs.WalkLemmas.{Walks}
use Rattle.number_links.proofs.gathering.gather.Given as goal

-- what is seen so far is right, and nothing is learned but of what rests and is allowed
abbrev pub invariant-waiting : goal.invariant-waiting
invariant-waiting g l =
    Walks (λ n. is_some (known l.links n) ≡ true) (linked l.initial.links) (λ _. true) l.roots (has l.seen) l.waiting.items
    × ((q : ℕ) → is_some (known l.initial.links q) ≡ true → known l.links q ≡ known l.initial.links q)
    × ((q : ℕ) (ms : List ℕ) → known l.links q ≡ Some ms → (known l.initial.links q ≡ Some ms) ⊎ ((ms ≡ []) × (has l.allowed q ≡ true) × (g.R.Resting.rests l.resting q ≡ true)))

-- the numbers that are not seen, and those that wait
abbrev pub decreases-waiting : goal.decreases-waiting
decreases-waiting g l = unseen 4294967296 (λ _. true) (has l.seen) + length l.waiting.items
