use Rattle.std.proofs.Common.{◌≡◌, ◌≤◌, ◌<◌, ℕ, false}
use Rattle.number_links.specs.Numbers.{has_bit}
use Rattle.number_links.proofs.words.next_bit.Given as goal

abbrev pub invariant-loop-k : goal.invariant-loop-k
invariant-loop-k l = (q : ℕ) → l.from ≤ q → q < l.k → has_bit l.word q ≡ false
