use Rattle.std.proofs.Common.{◌≡◌, ◌≤◌, ◌<◌, ◌-◌, ◌*◌, ◌&&◌, not, ℕ, false, length}
use Rattle.number_links.specs.Numbers.{has}
use Rattle.number_links.proofs.number_set.NumberSet.next_beyond.Given as goal

abbrev pub invariant-loop-begin : goal.invariant-loop-begin
invariant-loop-begin l = (l.from ≤ l.begin) × ((q : ℕ) → l.from ≤ q → q < l.begin → (not (has l.other q) && has l.self q) ≡ false)

abbrev pub decreases-loop-begin : goal.decreases-loop-begin
decreases-loop-begin l = length l.self-inside.pages.items * 4096 - l.begin
