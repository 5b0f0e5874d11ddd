use Rattle.std.proofs.Common.{◌≡◌, ◌⊎◌, ℕ, List, [], Some, All, true, is_some}
use Rattle.number_links.specs.Numbers.{has}
use Rattle.number_links.specs.Kept.{IsKept}
use Rattle.number_links.specs.Known.{known}
use Rattle.number_links.proofs.keeping.keep_all.Given as goal

-- all that are kept are right, and nothing is learned but of what rests
abbrev pub invariant-loop-at : goal.invariant-loop-at
invariant-loop-at g l =
    All (IsKept l.links) l.kept.items
    × ((q : ℕ) → is_some (known l.initial.links q) ≡ true → known l.links q ≡ known l.initial.links q)
    × ((q : ℕ) (ms : List ℕ) → known l.links q ≡ Some ms → (known l.initial.links q ≡ Some ms) ⊎ ((ms ≡ []) × (has l.allowed q ≡ true) × (g.R.Resting.rests l.resting q ≡ true)))
