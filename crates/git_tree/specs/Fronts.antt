-- How a reader keeps lengths (own).
use Rattle.std.specs.Prelude.{◌<◌, ℕ, Bool, List, slice_index}

-- the first `count` lengths ascend
abbrev pub IsRising : List ℕ → ℕ → Type 0
IsRising lengths count = (i j : ℕ) → i < j → j < count → slice_index lengths i < slice_index lengths j

-- the kept lengths, the first `count` of the list, and whether there were too many
pub record FrontLengths : Type 0 where
  pub lengths : List ℕ
  pub count : ℕ
  pub is_full : Bool
