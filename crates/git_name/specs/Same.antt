-- Names compared byte by byte, as `==` compares them, and entries set by name (own).
use Rattle.std.specs.Prelude.{◌≡◌, ℕ, Bool, cond, List, Option, nat_eq}
use Rattle.std.specs.BTreeMap.{is_at}
use Rattle.std.specs.Cmp.Lexicographic.{pointwise}
use Rattle.std.specs.List.{list_any}
use Rattle.std.specs.Map.{lookup}
use Rattle.git_name.specs.Name.{name_cmp}

abbrev pub same_name : List ℕ → List ℕ → Bool
same_name = pointwise nat_eq

-- whether a name is in a list, byte by byte
abbrev pub is_listed : List (List ℕ) → List ℕ → Bool
is_listed names name = list_any (same_name name) names

-- whether a name is in a list, by the order of names
abbrev pub is_one_of : List (List ℕ) → List ℕ → Bool
is_one_of names name = list_any (is_at (name_cmp name)) names

-- the new entries have this value at the name, and what the old ones have at every other name
abbrev pub Sets : {X : Type 0} → List (List ℕ × X) → List (List ℕ × X) → List ℕ → Option X → Type 0
Sets old new name value = (q : List ℕ) → lookup (is_at (name_cmp q)) new ≡ cond (is_at (name_cmp name) q) value (lookup (is_at (name_cmp q)) old)
