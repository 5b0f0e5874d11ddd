use Rattle.std.proofs.Common.{◌≡◌, ℕ, ◌<◌, true, take, get_or}
use Rattle.std.specs.FinMap as map
use Rattle.git_reftx.proofs.above.front_above.Given as goal

-- no earlier `/` has a reference before it
abbrev pub invariant-loop-at : goal.invariant-loop-at
invariant-loop-at l = (j : ℕ) → j < l.at → get_or l.name j 0 ≡ 47 → map.contains_key l.references (take j l.name) ≡ true → ⊥
