use Rattle.std.proofs.Common.{◌≡◌, ◌<◌, ℕ, true, get_or}
use Rattle.number_links.specs.Numbers.{has_bit}
use Rattle.number_links.proofs.page.Page.is_within.Given as goal

-- the words before this one have no more bits
abbrev pub invariant-loop-at : goal.invariant-loop-at
invariant-loop-at l = (i k : ℕ) → i < l.at → has_bit (get_or l.self-inside.words.value i 0) k ≡ true → has_bit (get_or l.other-inside.words.value i 0) k ≡ true
