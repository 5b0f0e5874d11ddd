-- Totals of what objects use, in bytes, as they are reported.
use Rattle.std.specs.Prelude.{ℕ}
use Rattle.object_table.specs.Totals as totals

-- a total, or the greatest number of 128 bits if it is larger
abbrev pub capped : ℕ → ℕ
capped total = totals.capped total
