use Rattle.std.proofs.Common.{◌≡◌, ◌<◌, ℕ, true, None, get_or, is_some}
use Rattle.number_links.proofs.number_set.NumberSet.has_pages_of.Given as goal

-- the pages before this one are there where the other set has them
abbrev pub invariant-loop-at : goal.invariant-loop-at
invariant-loop-at l = (i : ℕ) → i < l.at → is_some (get_or l.other-inside.pages.items i None) ≡ true → is_some (get_or l.self i None) ≡ true
