use Rattle.std.proofs.Common.{◌≡◌, ◌<◌, ℕ, true, get_or}
use Rattle.number_links.specs.Numbers.{has}
use Rattle.number_links.proofs.gathering.are_allowed.Given as goal

abbrev pub invariant-loop-n : goal.invariant-loop-n
invariant-loop-n l = (k : ℕ) → k < l.n-index → has l.allowed (get_or l.numbers k 0) ≡ true
