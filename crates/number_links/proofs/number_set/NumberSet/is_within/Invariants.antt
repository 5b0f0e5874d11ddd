use Rattle.std.proofs.Common.{◌≡◌, ◌<◌, ◌≤◌, ℕ, true, None, get_or}
use Rattle.number_links.specs.Numbers.{is_there}
use Rattle.number_links.proofs.number_set.NumberSet.is_within.Given as goal

-- the pages before this one have no more numbers
abbrev pub invariant-loop-at : goal.invariant-loop-at
invariant-loop-at l = (i k : ℕ) → i < l.at → is_there (get_or l.self-inside.pages.items i None) k ≡ true → is_there (get_or l.other-inside.pages.items i None) k ≡ true

-- there are no pages after those that both have, up to this one
abbrev pub invariant-loop-at-2 : goal.invariant-loop-at-2
invariant-loop-at-2 l = (i : ℕ) → l.common ≤ i → i < l.at → get_or l.self-inside.pages.items i None ≡ None
