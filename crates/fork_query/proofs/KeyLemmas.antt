-- The keys of a finite map, and names in order.
pub use Rattle.fork_reach.proofs.KeyLemmas.{keys_ascend}
use Rattle.std.proofs.Common.{◌≡◌, ◌||◌, ℕ, Bool, List, [], ◌∷◌, refl, sym, ap, ◌∙◌}
use Rattle.std.specs.BTreeMap.{is_at}
use Rattle.std.specs.BTreeSet.{BTreeSet}
use Rattle.std.specs.FinMap.{FinMap, contains_key, contains_key-keys, keys}
use Rattle.std.specs.List.{list_any}
use Rattle.std.specs.List.Sorted.{IsStrictlySortedBy}
use Rattle.std.proofs.lemmas.Map.Lookups.{btree_set_from_contains}
use Rattle.git_name.specs.Name.{name_cmp}
use Rattle.git_name.specs.Same.{same_name}
use Rattle.git_name.proofs.HashMaps.{one_test}
use Rattle.git_name.proofs.Names.{name_total, name_exact}
use Rattle.fork_reach.specs.Reach.{is_among}

any_alike : (p q : List ℕ → Bool) → ((x : List ℕ) → p x ≡ q x) → (xs : List (List ℕ)) → list_any p xs ≡ list_any q xs
any_alike p q same [] = refl
any_alike p q same (x ∷ xs) = ap (λ b. b || list_any p xs) (same x) ∙ ap (λ b. q x || b) (any_alike p q same xs)

among_by_order : (names : List (List ℕ)) (name : List ℕ) → is_among names name ≡ list_any (is_at (name_cmp name)) names
among_by_order names name = any_alike (same_name name) (is_at (name_cmp name)) (one_test name) names

-- names that ascend, and are those that have values, are the keys
pub keys_of_names : {X : Type 0} (names : List (List ℕ)) (values : FinMap name_cmp X) → IsStrictlySortedBy name_cmp names → ((name : List ℕ) → is_among names name ≡ contains_key values name) → names ≡ keys values
keys_of_names names values ordered same =
    let all : BTreeSet (List ℕ) = record { keys = keys values } in
    let these : BTreeSet (List ℕ) = record { keys = names } in
    btree_set_from_contains name_total these all ordered (keys_ascend values) (λ name. sym (among_by_order names name) ∙ same name ∙ contains_key-keys values name) name_exact
