use Rattle.std.proofs.Common.{◌≡◌, ◌≤◌, ◌<◌, ◌-◌, ◌&&◌, not, ℕ, false}
use Rattle.number_links.specs.Numbers.{is_in}
use Rattle.number_links.proofs.page.Page.next_beyond.Given as goal

abbrev pub invariant-loop-begin : goal.invariant-loop-begin
invariant-loop-begin l = (l.from ≤ l.begin) × ((q : ℕ) → l.from ≤ q → q < l.begin → (not (is_in l.other q) && is_in l.self q) ≡ false)

abbrev pub decreases-loop-begin : goal.decreases-loop-begin
decreases-loop-begin l = 4096 - l.begin
