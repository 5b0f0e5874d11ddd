-- The place of a name among distinct names, and what is read and written at its place.
use Rattle.std.proofs.Common.{◌≡◌, ℕ, zero, suc, Bool, cond, List, [], ◌∷◌, None, Some, is_some, get_or, map, position, slice_get, refl, sym, ap, subst, ◌∙◌}
use Rattle.std.specs.List.{IsDistinct, list_any}
use Rattle.std.specs.Map.{keys_of, lookup, values_of}
use Rattle.std.specs.Option.{IfSome, option_map}
use Rattle.std.proofs.lemmas.Cmp.{nat_list_eq_equiv}
use Rattle.std.proofs.lemmas.List.Quantifiers.{position-Some}
use Rattle.std.proofs.lemmas.Map.Made.{is_some-lookup}
use Rattle.std.proofs.lemmas.Option.{slice_get-get_or, slice_get-map}
use Rattle.indexmap.specs.IndexMap.{IndexMap, IsUnique, set_value_at}
use Rattle.indexmap.proofs.CallerLemmas.{updates-with_value_at}
use Rattle.indexmap.proofs.MapLemmas.{Missing-position, index-first, some_index, value_index}
use Rattle.indexmap.proofs.RemoveLemmas.{own_first}
use Rattle.git_name.specs.Same.{same_name}
use Rattle.git_name.proofs.HashMaps.{one_name}

-- each name with a value
abbrev valued : List ℕ → List ℕ × ℕ
valued name = (name, 0)

keys_valued : (names : List (List ℕ)) → keys_of (map valued names) ≡ names
keys_valued [] = refl
keys_valued (name ∷ names) = ap (λ rest. name ∷ rest) (keys_valued names)

-- a name at one place is at no other
pub only_place : (names : List (List ℕ)) (at : ℕ) (name : List ℕ) → IsDistinct same_name names → slice_get names at ≡ Some name → position (same_name name) names ≡ Some at
only_place names at name distinct is =
    let entries = map valued names in
    ap (position (same_name name)) (sym (keys_valued names))
    ∙ index-first (same_name name) entries at (own_first same_name nat_list_eq_equiv entries at name 0
    (subst (IsDistinct same_name) (sym (keys_valued names)) distinct) (slice_get-map valued names at ∙ ap (option_map valued) is))

-- a name that has a place is one of the names
pub placed : (test : List ℕ → Bool) (names : List (List ℕ)) → is_some (position test names) ≡ list_any test names
placed test names =
    ap (λ all. is_some (position test all)) (sym (keys_valued names)) ∙ some_index test (map valued names)
    ∙ is_some-lookup test (map valued names) ∙ ap (list_any test) (keys_valued names)

-- the name is at its place
name_at : (names : List (List ℕ)) (name : List ℕ) (place : ℕ) → position (same_name name) names ≡ Some place → slice_get names place ≡ Some name
name_at names name place placed =
    let found = position-Some (same_name name) names place name placed in
    slice_get-get_or names place name found.0 ∙ ap Some (sym (one_name name (get_or names place name) found.1))

module _ {X : Type 0} where
  -- a look-up returns the value at the name's place
  pub value_at : (entries : List (List ℕ × X)) (name : List ℕ) (place : ℕ) (value : X) → position (same_name name) (keys_of entries) ≡ Some place → slice_get (values_of entries) place ≡ Some value → lookup (same_name name) entries ≡ Some value
  value_at entries name place value placed is = sym (subst (λ found. IfSome found (λ i. slice_get (values_of entries) i ≡ lookup (same_name name) entries)) placed (value_index (same_name name) entries)) ∙ is

  -- a look-up does not find a name that has no place
  pub none_at : (entries : List (List ℕ × X)) (name : List ℕ) → position (same_name name) (keys_of entries) ≡ None → lookup (same_name name) entries ≡ None
  none_at entries name none = (Missing-position (same_name name) entries none).value

  pair_at : (entries : List (List ℕ × X)) (place : ℕ) (name : List ℕ) (value : X) → slice_get (keys_of entries) place ≡ Some name → slice_get (values_of entries) place ≡ Some value → slice_get entries place ≡ Some (name, value)
  pair_at [] place name value key is = absurd (cc)
  pair_at (entry ∷ entries) zero name value key is = (let same : entry.0 ≡ name = cc in let told : entry.1 ≡ value = cc in ap (λ n. Some (n, entry.1)) same ∙ ap (λ v. Some (name, v)) told)
  pair_at (entry ∷ entries) (suc place) name value key is = pair_at entries place name value key is

  -- a value written at a name's place is found under that name, and all else stays
  pub written_at : {S : Type 0} (map : IndexMap (List ℕ) X S) (name : List ℕ) (place : ℕ) (value now : X) → IsUnique same_name map → position (same_name name) (keys_of map.entries) ≡ Some place → slice_get (values_of map.entries) place ≡ Some value
      → (q : List ℕ) → lookup (same_name q) (set_value_at map.entries place now) ≡ cond (same_name name q) (Some now) (lookup (same_name q) map.entries)
  written_at map name place value now unique placed is q =
      (updates-with_value_at map place now nat_list_eq_equiv unique name value (pair_at map.entries place name value (name_at (keys_of map.entries) name place placed) is)).0 q
