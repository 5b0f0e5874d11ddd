use Rattle.std.proofs.Common.{◌≡◌, ◌<◌, ◌≤◌, ℕ, true, None, get_or, is_some, length}
use Rattle.number_links.specs.Numbers.{is_there}
use Rattle.number_links.proofs.number_set.NumberSet.reserve_all.Given as goal

-- no number comes, and the pages before this one are there where the other set has them
abbrev pub invariant-loop-at : goal.invariant-loop-at
invariant-loop-at l =
    (length l.self-inside.pages.items ≤ 1048576)
    × ((i k : ℕ) → is_there (get_or l.self-inside.pages.items i None) k ≡ is_there (get_or l.initial.self-inside.pages.items i None) k)
    × ((i : ℕ) → i < l.at → is_some (get_or l.other-inside.pages.items i None) ≡ true → is_some (get_or l.self-inside.pages.items i None) ≡ true)
