-- Names that were sorted are the keys of a finite map that has just them, and the entries of such a map are in order.
use Rattle.std.proofs.Common.{◌≡◌, ◌&&◌, ℕ, zero, suc, Bool, true, false, T, List, [], ◌∷◌, refl, sym, ◌∙◌, arith}
use Rattle.std.specs.declared.cmp.Ordering.{Ordering}
use Rattle.std.specs.declared.cmp.Ordering.TheVariants.{Less, Equal, Greater}
use Rattle.std.specs.Cmp.{eq_by_cmp_equiv}
use Rattle.std.specs.Ordering.{eq_by_cmp, is_eq, is_lt, ordering_reverse}
use Rattle.std.specs.BTreeMap.{is_at}
use Rattle.std.specs.List.{All, AllByRecursion, AllPairs, IsDistinct, list_any}
use Rattle.std.specs.List.Sorted.{IsPermutation, IsSorted, IsStrictlySortedBy}
use Rattle.std.specs.Map.{keys_of}
use Rattle.std.specs.FinMap.{FinMap, contains_key, contains_key-keys, entries, entries_sorted, keys}
use Rattle.std.specs.FinMap.Entries.{below_all, is_sorted}
use Rattle.std.proofs.lemmas.Cmp.{nat_list_eq_equiv}
use Rattle.std.proofs.lemmas.List.Elements.{All-head, All-tail}
use Rattle.std.proofs.lemmas.List.Sorted.{list_any-IsPermutation, ranks_by, sorted_far}
use Rattle.std.proofs.lemmas.Map.Keys.{IsDistinct-IsPermutation}
use Rattle.std.proofs.lemmas.Map.Lookups.{btree_set_from_contains}
use Rattle.git_name.specs.Name.{name_cmp}
use Rattle.git_name.specs.Same.{same_name}
use Rattle.git_name.proofs.HashMaps.{distinct_by_order}
use Rattle.git_name.proofs.Names.{name_total, name_exact}

reversed : (o : Ordering) → is_lt o ≡ false → is_eq o ≡ false → ordering_reverse o ≡ Less
reversed Less p q = absurd (cc)
reversed Equal p q = absurd (cc)
reversed Greater p q = refl

all_above : (k : List ℕ) (ks : List (List ℕ)) → All (λ y. is_lt (name_cmp y k) ≡ false) ks → AllByRecursion (λ y. eq_by_cmp name_cmp k y ≡ false) ks → AllByRecursion (λ y. name_cmp k y ≡ Less) ks
all_above k [] low apart = tt
all_above k (y ∷ ys) low apart = (
  name_total.antisymm k y ∙ reversed (name_cmp y k) (All-head (λ y. is_lt (name_cmp y k) ≡ false) y ys low) ((eq_by_cmp_equiv name_total).symm y k ∙ apart.0),
  all_above k ys (All-tail (λ y. is_lt (name_cmp y k) ≡ false) y ys low) apart.1,
)

ascending : (ks : List (List ℕ)) → AllPairs (λ a b. is_lt (name_cmp b a) ≡ false) ks → IsDistinct (eq_by_cmp name_cmp) ks → IsStrictlySortedBy name_cmp ks
unfolding IsStrictlySortedBy IsDistinct
ascending [] up apart = tt
ascending (k ∷ ks) up apart = (
  all_above k ks (λ j d inside. up zero (suc j) d (omega arith) (omega arith)) apart.0,
  ascending ks (λ i j d below inside. up (suc i) (suc j) d (omega arith) (omega arith)) apart.1,
)

-- sorted names that differ are in strict order
pub strictly_sorted : (ks : List (List ℕ)) → IsSorted name_cmp ks → IsDistinct same_name ks → IsStrictlySortedBy name_cmp ks
strictly_sorted ks sorted distinct = ascending ks (λ i j d below inside. sorted_far _ (ranks_by name_total (λ a. a)) ks sorted i j d (omega arith) inside) (distinct_by_order ks distinct)

-- names, once sorted, are the keys of a map that has just them
pub sorted_keys : {X : Type 0} (m : FinMap name_cmp X) (names sorted : List (List ℕ)) → IsStrictlySortedBy name_cmp (keys m) → IsPermutation names sorted → IsSorted name_cmp sorted → IsDistinct same_name names
    → ((q : List ℕ) → list_any (is_at (name_cmp q)) names ≡ contains_key m q) → sorted ≡ keys m
sorted_keys m names sorted ascends moved in_order distinct at =
    btree_set_from_contains name_total (record { keys = sorted }) (record { keys = keys m }) (strictly_sorted sorted in_order (IsDistinct-IsPermutation same_name nat_list_eq_equiv.symm names sorted moved distinct)) ascends
    (λ q. sym (list_any-IsPermutation (is_at (name_cmp q)) names sorted moved) ∙ at q ∙ contains_key-keys m q) name_exact

-- ---- the entries of a finite map
both_hold : (a b : Bool) → T (a && b) → T a × T b
both_hold true b h = (tt, h)
both_hold false b h = absurd h

less_of : (o : Ordering) → T (is_lt o) → o ≡ Less
less_of Less h = refl
less_of Equal h = absurd h
less_of Greater h = absurd h

below_of : {K X : Type 0} (R : K → K → Ordering) (k : K) (es : List (K × X)) → T (below_all R k es) → AllByRecursion (λ q. R k q ≡ Less) (keys_of es)
below_of R k [] h = tt
below_of R k (e ∷ es) h = (let hs = both_hold (is_lt (R k e.0)) (below_all R k es) h in (less_of (R k e.0) hs.0, below_of R k es hs.1))

sorted_of : {K X : Type 0} (R : K → K → Ordering) (es : List (K × X)) → T (is_sorted R es) → IsStrictlySortedBy R (keys_of es)
unfolding IsStrictlySortedBy
sorted_of R [] h = tt
sorted_of R (e ∷ es) h = (let hs = both_hold (below_all R e.0 es) (is_sorted R es) h in (below_of R e.0 es hs.0, sorted_of R es hs.1))

-- the entries of a finite map are in order
pub sorted_entries : {K X : Type 0} {R : K → K → Ordering} (m : FinMap R X) → IsStrictlySortedBy R (keys_of (entries m))
sorted_entries {R = R} m = sorted_of R (entries m) (entries_sorted m)
