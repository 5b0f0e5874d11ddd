-- What a reader knows of the lengths of earlier files' names (own).
use Rattle.std.specs.Prelude.{◌≡◌, ◌<◌, ◌⊎◌, ℕ, true, slice_index}
use Rattle.git_tree.specs.Fronts.{FrontLengths}

-- the length is one of those kept, or there were too many
abbrev pub Knows : FrontLengths → ℕ → Type 0
Knows fronts n = (fronts.is_full ≡ true) ⊎ ((k : ℕ) × (k < fronts.count) × (slice_index fronts.lengths k ≡ n))
