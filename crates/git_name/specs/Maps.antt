-- Finite maps: other values under the same keys, and the union of two maps (own).
use Rattle.std.specs.Prelude.{List, [], ◌∷◌, ◌++◌}
use Rattle.std.specs.declared.cmp.Ordering.{Ordering}
use Rattle.std.specs.FinMap.{FinMap, entries, from_entries, from_sorted}

-- each value replaced by a function of it, under the same key
abbrev pub mapped : {K X Y : Type 0} → (X → Y) → List (K × X) → List (K × Y)
mapped f [] = []
mapped f (e ∷ es) = (e.0, f e.1) ∷ mapped f es

unfoldable pub map_values : {K X Y : Type 0} {R : K → K → Ordering} → (X → Y) → FinMap R X → FinMap R Y
map_values f m = from_sorted (mapped f (entries m))

-- the entries of both maps; if both have a key, the first map's
unfoldable pub joined : {K X : Type 0} {R : K → K → Ordering} → FinMap R X → FinMap R X → FinMap R X
joined m n = from_entries (entries m ++ entries n)
