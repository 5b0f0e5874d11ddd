-- What a finite map of chosen entries has, and in which order.
use Rattle.std.proofs.Common.{◌≡◌, Bool, true, false, cond, List, [], ◌∷◌, Option, Some, None, refl, sym, ap, subst, ◌∙◌}
use Rattle.std.specs.Prelude.{if◌then◌else◌}
use Rattle.std.specs.declared.cmp.Ordering.{Ordering}
use Rattle.std.specs.declared.cmp.Ordering.TheVariants.{Less, Equal, Greater}
use Rattle.std.specs.Ordering.{eq_by_cmp, is_eq}
use Rattle.std.specs.Option.{option_and_then, option_map}
use Rattle.std.specs.Cmp.{IsTotalOrder, eq_by_cmp_equiv}
use Rattle.std.specs.BTreeMap.{is_at}
use Rattle.std.specs.Map.{lookup, keys_of}
use Rattle.std.specs.Map.Calls.{RetainsPairs}
use Rattle.std.specs.List.{AllByRecursion, IsDistinct, cons_option}
use Rattle.std.specs.List.Sorted.{IsStrictlySortedBy}
use Rattle.std.specs.FinMap.{FinMap, IsAntisymmetric, entries, from_entries, get, get-entries, same_map}
use Rattle.std.proofs.lemmas.Map.{NonePasses, lookup-none}
use Rattle.std.proofs.lemmas.Map.Entries.{none_past_head}
use Rattle.std.proofs.lemmas.Map.Keys.{IsDistinct-from_sorted, IsDistinct-tail}
use Rattle.git_name.proofs.SortedNames.{sorted_entries}
use Rattle.git_name.proofs.TreeMaps.{entries_of_ordered, find_is_lookup, get_of_entries}
use Rattle.object_table.specs.Chosen.{chosen, chosen_in}

-- ---- order
below_chosen : {K X Y : Type 0} (R : K → K → Ordering) (f : K → X → Option Y) (k : K) (es : List (K × X))
    → AllByRecursion (λ q. R k q ≡ Less) (keys_of es) → AllByRecursion (λ q. R k q ≡ Less) (keys_of (chosen_in f es))
below_chosen R f k [] all = tt
below_chosen {Y = Y} R f k (e ∷ es) all = by (f e.0 e.1) (below_chosen R f k es all.1)
  where
    by : (o : Option Y) → AllByRecursion (λ q. R k q ≡ Less) (keys_of (chosen_in f es)) → AllByRecursion (λ q. R k q ≡ Less) (keys_of (cons_option (option_map (λ y. (e.0, y)) o) (chosen_in f es)))
    by None rest = rest
    by (Some y) rest = (all.0, rest)

apart_chosen : {K X Y : Type 0} (eq : K → K → Bool) (f : K → X → Option Y) (k : K) (es : List (K × X))
    → AllByRecursion (λ q. eq k q ≡ false) (keys_of es) → AllByRecursion (λ q. eq k q ≡ false) (keys_of (chosen_in f es))
apart_chosen eq f k [] all = tt
apart_chosen {Y = Y} eq f k (e ∷ es) all = by (f e.0 e.1) (apart_chosen eq f k es all.1)
  where
    by : (o : Option Y) → AllByRecursion (λ q. eq k q ≡ false) (keys_of (chosen_in f es)) → AllByRecursion (λ q. eq k q ≡ false) (keys_of (cons_option (option_map (λ y. (e.0, y)) o) (chosen_in f es)))
    by None rest = rest
    by (Some y) rest = (all.0, rest)

-- chosen entries stand in the order of all
pub sorted_chosen : {K X Y : Type 0} (R : K → K → Ordering) (f : K → X → Option Y) (es : List (K × X)) → IsStrictlySortedBy R (keys_of es) → IsStrictlySortedBy R (keys_of (chosen_in f es))
unfolding IsStrictlySortedBy
sorted_chosen R f [] sorted = tt
sorted_chosen {Y = Y} R f (e ∷ es) sorted = by (f e.0 e.1) (sorted_chosen R f es sorted.1)
  where
    by : (o : Option Y) → IsStrictlySortedBy R (keys_of (chosen_in f es)) → IsStrictlySortedBy R (keys_of (cons_option (option_map (λ y. (e.0, y)) o) (chosen_in f es)))
    by None rest = rest
    by (Some y) rest = (below_chosen R f e.0 es sorted.0, rest)

-- chosen entries, as a list
pub entries_chosen : {K X Y : Type 0} {R : K → K → Ordering} → IsTotalOrder R → (f : K → X → Option Y) (m : FinMap R X) → entries (chosen f m) ≡ chosen_in f (entries m)
unfolding chosen
entries_chosen {R = R} total f m = entries_of_ordered total (chosen_in f (entries m)) (sorted_chosen R f (entries m) (sorted_entries m))

-- ---- at a key
none_chosen : {K X Y : Type 0} (test : K → Bool) (f : K → X → Option Y) (es : List (K × X)) → NonePasses test es → NonePasses test (chosen_in f es)
none_chosen test f [] h = tt
none_chosen {Y = Y} test f (e ∷ es) h = by (f e.0 e.1) (none_chosen test f es h.1)
  where
    by : (o : Option Y) → NonePasses test (chosen_in f es) → NonePasses test (cons_option (option_map (λ y. (e.0, y)) o) (chosen_in f es))
    by None rest = rest
    by (Some y) rest = (h.0, rest)

head_chosen : {K X Y : Type 0} (test : K → Bool) (f : K → X → Option Y) (q : K) (e : K × X) (rest : List (K × Y)) (tail : Option X) (o : Option Y) (b : Bool) → f e.0 e.1 ≡ o → test e.0 ≡ b
    → (b ≡ true → q ≡ e.0) → (b ≡ true → lookup test rest ≡ None) → lookup test rest ≡ option_and_then (f q) tail
    → lookup test (cons_option (option_map (λ y. (e.0, y)) o) rest) ≡ option_and_then (f q) (cond b (Some e.1) tail)
head_chosen test f q e rest tail None true is at same none later = none refl ∙ sym (ap (λ k. f k e.1) (same refl) ∙ is)
head_chosen test f q e rest tail None false is at same none later = later
head_chosen test f q e rest tail (Some y) true is at same none later = ap (λ b. cond b (Some y) (lookup test rest)) at ∙ sym (ap (λ k. f k e.1) (same refl) ∙ is)
head_chosen test f q e rest tail (Some y) false is at same none later = ap (λ b. cond b (Some y) (lookup test rest)) at ∙ later

tied : (o : Ordering) → is_eq o ≡ true → o ≡ Equal
tied Less e = cc
tied Equal e = refl
tied Greater e = cc

-- keys that compare alike are one
pub one_key : {K : Type 0} {R : K → K → Ordering} → IsAntisymmetric R → (k q : K) → is_at (R k) q ≡ true → k ≡ q
one_key {R = R} exact k q e = exact k q (tied (R k q) e)

lookup_chosen : {K X Y : Type 0} {R : K → K → Ordering} → IsTotalOrder R → IsAntisymmetric R → (f : K → X → Option Y) (es : List (K × X)) (q : K) → IsDistinct (eq_by_cmp R) (keys_of es)
    → lookup (is_at (R q)) (chosen_in f es) ≡ option_and_then (f q) (lookup (is_at (R q)) es)
lookup_chosen total exact f [] q distinct = refl
lookup_chosen {R = R} total exact f (e ∷ es) q distinct =
    head_chosen (is_at (R q)) f q e (chosen_in f es) (lookup (is_at (R q)) es) (f e.0 e.1) (is_at (R q) e.0) refl refl (one_key {R = R} exact q e.0)
    (λ here. lookup-none (is_at (R q)) _ (none_chosen (is_at (R q)) f es (none_past_head (eq_by_cmp_equiv total) q e es distinct here)))
    (lookup_chosen total exact f es q (IsDistinct-tail (eq_by_cmp R) e.0 (keys_of es) distinct))

pub entries_at : {K X : Type 0} {R : K → K → Ordering} (m : FinMap R X) (q : K) → lookup (is_at (R q)) (entries m) ≡ get m q
entries_at {R = R} m q = sym (get-entries m q ∙ find_is_lookup R (entries m) q)

-- a map of chosen entries has at a key what the function has there
pub get_chosen : {K X Y : Type 0} {R : K → K → Ordering} → IsTotalOrder R → IsAntisymmetric R → (f : K → X → Option Y) (m : FinMap R X) (q : K) → get (chosen f m) q ≡ option_and_then (f q) (get m q)
unfolding chosen
get_chosen {R = R} total exact f m q =
    get_of_entries total (chosen_in f (entries m)) q ∙ lookup_chosen total exact f (entries m) q (IsDistinct-from_sorted R (keys_of (entries m)) (sorted_entries m)) ∙ ap (option_and_then (f q)) (entries_at m q)

-- chosen entries of a list whose keys differ are those of its finite map
pub chosen_of_distinct : {K X Y : Type 0} {R : K → K → Ordering} → IsTotalOrder R → IsAntisymmetric R → (f : K → X → Option Y) (es : List (K × X)) → IsDistinct (eq_by_cmp R) (keys_of es)
    → from_entries {R = R} (chosen_in f es) ≡ chosen f (from_entries {R = R} es)
chosen_of_distinct {R = R} total exact f es distinct = same_map total exact _ _ (λ q.
    get_of_entries total (chosen_in f es) q ∙ lookup_chosen total exact f es q distinct
    ∙ sym (get_chosen total exact f (from_entries {R = R} es) q ∙ ap (option_and_then (f q)) (get_of_entries total es q)))

-- chosen keys differ where all do
pub distinct_chosen : {K X Y : Type 0} (eq : K → K → Bool) (f : K → X → Option Y) (es : List (K × X)) → IsDistinct eq (keys_of es) → IsDistinct eq (keys_of (chosen_in f es))
unfolding IsDistinct
distinct_chosen eq f [] distinct = tt
distinct_chosen {Y = Y} eq f (e ∷ es) distinct = by (f e.0 e.1) (distinct_chosen eq f es distinct.1)
  where
    by : (o : Option Y) → IsDistinct eq (keys_of (chosen_in f es)) → IsDistinct eq (keys_of (cons_option (option_map (λ y. (e.0, y)) o) (chosen_in f es)))
    by None rest = rest
    by (Some y) rest = (apart_chosen eq f e.0 es distinct.0, rest)

-- ---- a closure of `retain` that stays as it was, and leaves of each entry what a function has
kept_pair : {K X : Type 0} (k : K) (b : Bool) (w : X) (o : Option X) (rest : List (K × X)) → (if b then Some w else None) ≡ o → cond b ((k, w) ∷ rest) rest ≡ cons_option (option_map (λ y. (k, y)) o) rest
kept_pair k true w o rest is = ap (λ x. cons_option (option_map (λ y. (k, y)) x) rest) is
kept_pair k false w o rest is = ap (λ x. cons_option (option_map (λ y. (k, y)) x) rest) is

module _ {F K X : Type 0} (L : F → K → X → Bool → X → F → Type 0) where
  pub retained : (g : K → X → Option X) (f : F) → ((k : K) (v : X) (b : Bool) (w : X) (f' : F) → L f k v b w f' → ((if b then Some w else None) ≡ g k v) × (f' ≡ f))
      → (es kept : List (K × X)) → RetainsPairs L f es kept → kept ≡ chosen_in g es
  retained g f h [] kept r = r
  retained g f h (e ∷ es) kept r =
      let a = h e.0 e.1 r.0 r.1 r.2 r.4 in
      let later = retained g f h es r.3 (subst (λ u. RetainsPairs L u es r.3) a.1 r.5) in
      r.6 ∙ kept_pair e.0 r.0 r.1 (g e.0 e.1) r.3 a.0 ∙ ap (cons_option (option_map (λ y. (e.0, y)) (g e.0 e.1))) later
