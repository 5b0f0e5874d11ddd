-- The use of a ledger's objects, in bytes (own).
use Rattle.std.specs.Prelude.{◌+◌, ℕ, min, sum_by, if◌then◌else◌}
use Rattle.std.specs.FinMap.{values}
use Rattle.fork_reach.specs.declared.usage.TheConstants.{OBJECT_USE}
use Rattle.object_table.specs.declared.word.Word.{Word}
use Rattle.object_table.specs.Words.{Words, is_visible}

-- the use of an object: its length, and a fixed number of bytes
abbrev pub use_of_word : Word → ℕ
use_of_word word = word.length + OBJECT_USE

-- the use of an object if it is visible, and else 0
abbrev pub seen_use : Word → ℕ
seen_use word = if is_visible word then use_of_word word else 0

-- the use of the objects that the tenant sees
unfoldable pub used_by : Words → ℕ
used_by words = sum_by seen_use (values words)

-- the use of the objects that the tenant sees or has staged
unfoldable pub total_of : Words → ℕ
total_of words = sum_by use_of_word (values words)

-- a total, or the greatest number of 128 bits if it is larger
abbrev pub capped : ℕ → ℕ
capped total = min total 340282366920938463463374607431768211455
