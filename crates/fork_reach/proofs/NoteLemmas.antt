-- What is noted under names, at their places.
use Rattle.std.proofs.Common.{◌≡◌, ℕ, ◌||◌, Bool, true, false, cond, List, [], ◌∷◌, Option, None, Some, is_some, map, position, slice_get, length, refl, sym, ap, ◌∙◌}
use Rattle.std.specs.FinMap.{get}
use Rattle.std.specs.List.{list_any, zip}
use Rattle.std.specs.Map.{keys_of, lookup, values_of}
use Rattle.git_name.specs.Same.{same_name}
use Rattle.git_name.proofs.HashMaps.{get_of_hashed, one_name}
use Rattle.indexmap.proofs.MapLemmas.{Found-position, Missing-position}
use Rattle.fork_reach.specs.History.{Note, Notes, notes_under}

-- what stands at a place, if there is one
abbrev pub at_place : {X : Type 0} → List X → Option ℕ → Option X
at_place notes None = None
at_place notes (Some at) = slice_get notes at

-- the names are the keys
pub keys_noted : {X : Type 0} (names : List (List ℕ)) (notes : List X) → length notes ≡ length names → keys_of (zip names notes) ≡ names
keys_noted [] notes each = refl
keys_noted (name ∷ names) [] each = absurd (cc)
keys_noted (name ∷ names) (note ∷ notes) each = ap (λ rest. name ∷ rest) (keys_noted names notes (cc each))

-- and the notes the values
pub values_noted : {X : Type 0} (names : List (List ℕ)) (notes : List X) → length notes ≡ length names → values_of (zip names notes) ≡ notes
values_noted [] [] each = refl
values_noted [] (note ∷ notes) each = absurd (cc)
values_noted (name ∷ names) [] each = absurd (cc)
values_noted (name ∷ names) (note ∷ notes) each = ap (λ rest. note ∷ rest) (values_noted names notes (cc each))

-- the first name that passes a test tells the place
pub found_at : {X : Type 0} (test : List ℕ → Bool) (names : List (List ℕ)) (notes : List X) → length notes ≡ length names → lookup test (zip names notes) ≡ at_place notes (position test names)
found_at test names notes each = by (position test names) (ap (position test) (keys_noted names notes each))
  where
    by : (place : Option ℕ) → position test (keys_of (zip names notes)) ≡ place → lookup test (zip names notes) ≡ at_place notes place
    by None is = (Missing-position test (zip names notes) is).value
    by (Some at) is = (Found-position test (zip names notes) at is).value ∙ ap (λ all. slice_get all at) (values_noted names notes each)

-- so what is noted of a name stands where the name does
pub get_noted : (names : List (List ℕ)) (notes : List Note) (name : List ℕ) (history : Notes) → length notes ≡ length names → notes_under names notes ≡ history → at_place notes (position (same_name name) names) ≡ get history name
get_noted names notes name history each is = sym (found_at (same_name name) names notes each) ∙ sym (get_of_hashed (zip names notes) name) ∙ ap (λ all. get all name) is

some_either : {X : Type 0} (b : Bool) (note : X) (found : Option X) (other : Bool) → is_some found ≡ other → is_some (cond b (Some note) found) ≡ b || other
some_either true note found other is = refl
some_either false note found other is = is

-- something is noted of the names that stand there
pub noted_there : {X : Type 0} (test : List ℕ → Bool) (names : List (List ℕ)) (notes : List X) → length notes ≡ length names → is_some (lookup test (zip names notes)) ≡ list_any test names
noted_there test [] notes each = refl
noted_there test (name ∷ names) [] each = absurd (cc)
noted_there test (name ∷ names) (note ∷ notes) each = some_either (test name) note (lookup test (zip names notes)) (list_any test names) (noted_there test names notes (cc each))

by_rule : {X : Type 0} (rule : List ℕ → X) (name first : List ℕ) (b : Bool) (found : Option X) (among : Bool) → same_name name first ≡ b → found ≡ cond among (Some (rule name)) None → cond b (Some (rule first)) found ≡ cond (b || among) (Some (rule name)) None
by_rule rule name first true found among same is = ap (λ n. Some (rule n)) (sym (one_name name first same))
by_rule rule name first false found among other is = is

-- where each is noted by a rule, so is a name that stands there
pub noted_by : {X : Type 0} (rule : List ℕ → X) (names : List (List ℕ)) (name : List ℕ) → lookup (same_name name) (zip names (map rule names)) ≡ cond (list_any (same_name name) names) (Some (rule name)) None
noted_by rule [] name = refl
noted_by rule (first ∷ names) name = by_rule rule name first (same_name name first) (lookup (same_name name) (zip names (map rule names))) (list_any (same_name name) names) refl (noted_by rule names name)

either_stands : {X : Type 0} (note : X) (same : Bool) (found : Option X) (among : Bool) → (is_some found ≡ true → among ≡ true) → is_some (cond same (Some note) found) ≡ true → (same || among) ≡ true
either_stands note true found among rest there = refl
either_stands note false found among rest there = rest there

-- what is noted of a name stands under it
pub noted_stands : {X : Type 0} (names : List (List ℕ)) (notes : List X) (name : List ℕ) → is_some (lookup (same_name name) (zip names notes)) ≡ true → list_any (same_name name) names ≡ true
noted_stands [] notes name there = absurd (cc)
noted_stands (first ∷ names) [] name there = absurd (cc)
noted_stands (first ∷ names) (note ∷ notes) name there = either_stands note (same_name name first) (lookup (same_name name) (zip names notes)) (list_any (same_name name) names) (noted_stands names notes name) there
