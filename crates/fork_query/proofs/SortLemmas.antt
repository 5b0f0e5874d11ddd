-- Keys inserted at their places one by one, and sorted keys.
use Rattle.std.proofs.Common.{◌≡◌, ◌+◌, ◌||◌, Bool, true, false, List, [], ◌∷◌, refl, sym, ap, ◌∙◌, arith}
use Rattle.std.specs.Prelude.{fold}
use Rattle.std.specs.BTreeMap.{is_at}
use Rattle.std.specs.BTreeSet.{BTreeSet, insert_key}
use Rattle.std.specs.Cmp.{IsTotalOrder, eq_by_cmp_equiv}
use Rattle.std.specs.FinMap.{IsAntisymmetric}
use Rattle.std.specs.declared.cmp.Ordering.{Ordering}
use Rattle.std.specs.declared.cmp.Ordering.TheVariants.{Less, Equal, Greater}
use Rattle.std.specs.Ordering.{eq_by_cmp, is_eq, is_lt, match_ordering, ordering_reverse}
use Rattle.std.specs.List.{AllByRecursion, IsDistinct, list_any}
use Rattle.std.specs.List.Sorted.{IsPermutation, IsSorted, IsStrictlySortedBy}
use Rattle.std.proofs.lemmas.List.Sorted.{list_any-IsPermutation}
use Rattle.std.proofs.lemmas.Map.Keys.{IsDistinct-IsPermutation, apart_from_distinct, sorted_from_all_adjacent}
use Rattle.std.proofs.lemmas.Map.Lookups.{btree_set_from_contains}

or_none : (a : Bool) → a ≡ (a || false)
or_none true = refl
or_none false = refl

or_twice : (a b : Bool) → (a || b) ≡ (a || (a || b))
or_twice true b = refl
or_twice false b = refl

or_swapped : (a b c : Bool) → (a || (b || c)) ≡ (b || (a || c))
or_swapped true true c = refl
or_swapped true false c = refl
or_swapped false b c = refl

or_moved : (a b c : Bool) → ((a || b) || c) ≡ (b || (a || c))
or_moved true true c = refl
or_moved true false c = refl
or_moved false b c = refl

is_below : (order back : Ordering) → order ≡ ordering_reverse back → is_lt back ≡ false → is_eq order ≡ false → order ≡ Less
is_below Less back turned above apart = refl
is_below Equal back turned above apart = absurd (cc)
is_below Greater Less turned above apart = absurd (cc)
is_below Greater Equal turned above apart = absurd (cc)
is_below Greater Greater turned above apart = absurd (cc)

module _ {K : Type 0} {R : K → K → Ordering} (total : IsTotalOrder R) (exact : IsAntisymmetric R) where
  all_above : (k x : K) (xs : List K) → R k x ≡ Less → AllByRecursion (λ y. R x y ≡ Less) xs → AllByRecursion (λ y. R k y ≡ Less) xs
  all_above k x [] less all = tt
  all_above k x (y ∷ ys) less all = (total.trans k x y less all.0, all_above k x ys less all.1)

  put_above : (k x : K) (xs : List K) → R x k ≡ Less → AllByRecursion (λ y. R x y ≡ Less) xs → AllByRecursion (λ y. R x y ≡ Less) (insert_key R xs k)
  put_above k x [] less all = (less, tt)
  put_above k x (y ∷ ys) less all = by (R k y) (put_above k x ys less all.1)
    where
      by : (order : Ordering) → AllByRecursion (λ z. R x z ≡ Less) (insert_key R ys k) → AllByRecursion (λ z. R x z ≡ Less) (match_ordering order (k ∷ y ∷ ys) (y ∷ ys) (y ∷ insert_key R ys k))
      by Less rest = (less, all)
      by Equal rest = all
      by Greater rest = (all.0, rest)

  put_at : (k x : K) (xs : List K) (order : Ordering) → R k x ≡ order → IsStrictlySortedBy R (x ∷ xs) → IsStrictlySortedBy R (insert_key R xs k) → IsStrictlySortedBy R (match_ordering order (k ∷ x ∷ xs) (x ∷ xs) (x ∷ insert_key R xs k))
  unfolding IsStrictlySortedBy
  put_at k x xs Less is sorted rest = ((is, all_above k x xs is sorted.0), sorted)
  put_at k x xs Equal is sorted rest = sorted
  put_at k x xs Greater is sorted rest = (put_above k x xs (total.antisymm x k ∙ ap ordering_reverse is) sorted.0, rest)

  put_sorted : (k : K) (xs : List K) → IsStrictlySortedBy R xs → IsStrictlySortedBy R (insert_key R xs k)
  unfolding IsStrictlySortedBy
  put_sorted k [] sorted = (tt, tt)
  put_sorted k (x ∷ xs) sorted = put_at k x xs (R k x) refl sorted (put_sorted k xs sorted.1)

  all_sorted : (xs ks : List K) → IsStrictlySortedBy R xs → IsStrictlySortedBy R (fold (insert_key R) xs ks)
  all_sorted xs [] sorted = sorted
  all_sorted xs (k ∷ ks) sorted = all_sorted (insert_key R xs k) ks (put_sorted k xs sorted)

  -- whether a key is among keys
  abbrev has : K → List K → Bool
  has q xs = list_any (is_at (R q)) xs

  put_has : (q k : K) (xs : List K) → has q (insert_key R xs k) ≡ (is_at (R q) k || has q xs)
  put_has q k [] = refl
  put_has q k (x ∷ xs) = by (R k x) refl (put_has q k xs)
    where
      by : (order : Ordering) → R k x ≡ order → has q (insert_key R xs k) ≡ (is_at (R q) k || has q xs)
          → has q (match_ordering order (k ∷ x ∷ xs) (x ∷ xs) (x ∷ insert_key R xs k)) ≡ (is_at (R q) k || (is_at (R q) x || has q xs))
      by Less is rest = refl
      by Equal is rest = or_twice (is_at (R q) x) (has q xs) ∙ ap (λ y. is_at (R q) y || (is_at (R q) x || has q xs)) (sym (exact k x is))
      by Greater is rest = ap (λ b. is_at (R q) x || b) rest ∙ or_swapped (is_at (R q) x) (is_at (R q) k) (has q xs)

  all_has : (q : K) (xs ks : List K) → has q (fold (insert_key R) xs ks) ≡ (has q xs || has q ks)
  all_has q xs [] = or_none (has q xs)
  all_has q xs (k ∷ ks) = all_has q (insert_key R xs k) ks ∙ ap (λ b. b || has q ks) (put_has q k xs) ∙ or_moved (is_at (R q) k) (has q xs) (has q ks)

  strictly : (xs : List K) → IsSorted R xs → IsDistinct (eq_by_cmp R) xs → IsStrictlySortedBy R xs
  unfolding IsStrictlySortedBy
  strictly [] sorted distinct = tt
  strictly (x ∷ xs) sorted distinct = sorted_from_all_adjacent total (x ∷ xs) x (λ k inside.
      let apart = apart_from_distinct (eq_by_cmp R) (x ∷ xs) k (k + 1) x distinct (omega arith) inside in
      is_below _ _ (total.antisymm _ _) (sorted k x (omega arith) inside) apart)

  no_keys : IsStrictlySortedBy R []
  unfolding IsStrictlySortedBy
  no_keys = tt

  -- keys of which no two are equal, sorted, are the same keys put at their places
  pub sorted_is_put : (ks xs : List K) → IsDistinct (eq_by_cmp R) ks → IsPermutation ks xs → IsSorted R xs → xs ≡ fold (insert_key R) [] ks
  sorted_is_put ks xs distinct moved sorted =
      let of_xs : BTreeSet K = record { keys = xs } in
      let of_ks : BTreeSet K = record { keys = fold (insert_key R) [] ks } in
      btree_set_from_contains total of_xs of_ks (strictly xs sorted (IsDistinct-IsPermutation (eq_by_cmp R) (eq_by_cmp_equiv total).symm ks xs moved distinct)) (all_sorted [] ks no_keys)
      (λ q. sym (list_any-IsPermutation (is_at (R q)) ks xs moved) ∙ sym (all_has q [] ks)) exact
