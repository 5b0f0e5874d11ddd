-- What a finite map with other values, or the union of two maps, has at a key.
use Rattle.std.proofs.Common.{◌&&◌, Bool, true, false, ◌≡◌, ◌++◌, List, [], ◌∷◌, Option, Some, None, cond, refl, sym, ap, subst, ◌∙◌}
use Rattle.std.specs.declared.cmp.Ordering.{Ordering}
use Rattle.std.specs.Ordering.{eq_by_cmp, is_lt}
use Rattle.std.specs.Prelude.{T}
use Rattle.std.specs.Option.{option_map, option_or}
use Rattle.std.specs.Cmp.{IsTotalOrder}
use Rattle.std.specs.BTreeMap.{is_at}
use Rattle.std.specs.Map.{lookup}
use Rattle.std.specs.FinMap.{FinMap, IsAntisymmetric, empty, entries, entries_sorted, entries-from_sorted, find, get, get-empty, get-entries, get-from_sorted, get-insert, insert, is_sorted, same_map}
use Rattle.std.specs.FinMap.Entries.{below_all}
use Rattle.git_name.specs.Maps.{joined, map_values, mapped}
use Rattle.git_name.proofs.TreeMaps.{find_is_lookup, get_of_entries}

-- other values leave the order of the keys as it is
mapped_below : {K X Y : Type 0} (R : K → K → Ordering) (f : X → Y) (k : K) (es : List (K × X)) → below_all R k (mapped f es) ≡ below_all R k es
mapped_below R f k [] = refl
mapped_below R f k (e ∷ es) = ap (λ b. is_lt (R k e.0) && b) (mapped_below R f k es)

mapped_sorted : {K X Y : Type 0} (R : K → K → Ordering) (f : X → Y) (es : List (K × X)) → is_sorted R (mapped f es) ≡ is_sorted R es
mapped_sorted R f [] = refl
mapped_sorted R f (e ∷ es) = ap (λ b. b && is_sorted R (mapped f es)) (mapped_below R f e.0 es) ∙ ap (λ b. below_all R e.0 es && b) (mapped_sorted R f es)

still_sorted : {K X Y : Type 0} {R : K → K → Ordering} (f : X → Y) (m : FinMap R X) → T (is_sorted R (mapped f (entries m)))
still_sorted {R = R} f m = subst T (sym (mapped_sorted R f (entries m))) (entries_sorted m)

-- the entries of a map with other values
pub entries_map_values : {K X Y : Type 0} {R : K → K → Ordering} (f : X → Y) (m : FinMap R X) → entries (map_values f m) ≡ mapped f (entries m)
unfolding map_values
entries_map_values {R = R} f m = entries-from_sorted R (mapped f (entries m)) (still_sorted f m)

mapped_head : {X Y : Type 0} (f : X → Y) (v : X) (o : Option X) (p : Option Y) (b : Bool) → p ≡ option_map f o → cond b (Some (f v)) p ≡ option_map f (cond b (Some v) o)
mapped_head f v o p true rest = refl
mapped_head f v o p false rest = rest

find_mapped : {K X Y : Type 0} (R : K → K → Ordering) (f : X → Y) (es : List (K × X)) (q : K) → find R q (mapped f es) ≡ option_map f (find R q es)
find_mapped R f [] q = refl
find_mapped R f (e ∷ es) q = mapped_head f e.1 _ _ (eq_by_cmp R q e.0) (find_mapped R f es q)

entries_at : {K X : Type 0} {R : K → K → Ordering} (m : FinMap R X) (q : K) → lookup (is_at (R q)) (entries m) ≡ get m q
entries_at {R = R} m q = sym (get-entries m q ∙ find_is_lookup R (entries m) q)

-- a map with other values, at a key
pub get_map_values : {K X Y : Type 0} {R : K → K → Ordering} → IsTotalOrder R → (f : X → Y) (m : FinMap R X) (q : K) → get (map_values f m) q ≡ option_map f (get m q)
unfolding map_values
get_map_values {R = R} total f m q = get-from_sorted R (mapped f (entries m)) q (still_sorted f m) ∙ find_mapped R f (entries m) q ∙ ap (option_map f) (sym (get-entries m q))

or_cond : {X : Type 0} (b : Bool) (v : X) (o p : Option X) → cond b (Some v) (option_or o p) ≡ option_or (cond b (Some v) o) p
or_cond true v o p = refl
or_cond false v o p = refl

lookup_append : {K X : Type 0} (test : K → Bool) (es fs : List (K × X)) → lookup test (es ++ fs) ≡ option_or (lookup test es) (lookup test fs)
lookup_append test [] fs = refl
lookup_append test (e ∷ es) fs = ap (cond (test e.0) (Some e.1)) (lookup_append test es fs) ∙ or_cond (test e.0) e.1 (lookup test es) (lookup test fs)

-- the union of two maps, at a key
pub get_joined : {K X : Type 0} {R : K → K → Ordering} → IsTotalOrder R → (m n : FinMap R X) (q : K) → get (joined m n) q ≡ option_or (get m q) (get n q)
unfolding joined
get_joined {R = R} total m n q =
    get_of_entries total (entries m ++ entries n) q ∙ lookup_append (is_at (R q)) (entries m) (entries n)
    ∙ ap (λ o. option_or o (lookup (is_at (R q)) (entries n))) (entries_at m q) ∙ ap (option_or (get m q)) (entries_at n q)

or_none : {X : Type 0} (o : Option X) → option_or o None ≡ o
or_none None = refl
or_none (Some x) = refl

-- the union with the empty map
pub joined_empty : {K X : Type 0} {R : K → K → Ordering} → IsTotalOrder R → IsAntisymmetric R → (m : FinMap R X) → joined m empty ≡ m
joined_empty {X = X} {R = R} total exact m = same_map total exact _ _ (λ q. get_joined total m empty q ∙ ap (option_or (get m q)) (get-empty {X = X} R q) ∙ or_none (get m q))

empty_mapped : {X Y : Type 0} (f : X → Y) → option_map f None ≡ None
empty_mapped f = refl

-- the empty map with other values
pub map_values_empty : {K X Y : Type 0} {R : K → K → Ordering} → IsTotalOrder R → IsAntisymmetric R → (f : X → Y) → map_values f (empty {R = R}) ≡ empty
map_values_empty {X = X} {Y = Y} {R = R} total exact f = same_map total exact _ _ (λ q. get_map_values total f empty q ∙ ap (option_map f) (get-empty {X = X} R q) ∙ empty_mapped f ∙ sym (get-empty {X = Y} R q))

some_at : {X Y : Type 0} (f : X → Y) (v : X) (o : Option X) (b : Bool) → option_map f (cond b (Some v) o) ≡ cond b (Some (f v)) (option_map f o)
some_at f v o true = refl
some_at f v o false = refl

-- one more value, and its image
pub map_values_insert : {K X Y : Type 0} {R : K → K → Ordering} → IsTotalOrder R → IsAntisymmetric R → (f : X → Y) (m : FinMap R X) (k : K) (v : X) → map_values f (insert m k v) ≡ insert (map_values f m) k (f v)
map_values_insert total exact f m k v = same_map total exact _ _ (λ q.
    get_map_values total f (insert m k v) q ∙ ap (option_map f) (get-insert total m k v q) ∙ some_at f v (get m q) _
    ∙ ap (cond _ (Some (f v))) (sym (get_map_values total f m q)) ∙ sym (get-insert total (map_values f m) k (f v) q))
