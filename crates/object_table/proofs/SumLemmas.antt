-- Sums over the values of a finite map.
use Rattle.std.proofs.Common.{◌≡◌, ℕ, zero, suc, ◌+◌, ◌<◌, ◌≤◌, Bool, true, false, cond, List, [], ◌∷◌, Option, Some, None, refl, sym, ap, subst, ◌∙◌, arith, length}
use Rattle.std.specs.Prelude.{sum_by}
use Rattle.std.specs.declared.cmp.Ordering.{Ordering}
use Rattle.std.specs.declared.cmp.Ordering.TheVariants.{Less, Equal, Greater}
use Rattle.std.specs.Option.{option_and_then, option_map, option_map_or}
use Rattle.std.specs.Cmp.{IsTotalOrder, eq_by_cmp_equiv}
use Rattle.std.specs.Ordering.{eq_by_cmp, is_eq}
use Rattle.std.specs.BTreeMap.{is_at}
use Rattle.std.specs.Map.{lookup, keys_of, values_of}
use Rattle.std.specs.List.{IsDistinct, cons_option}
use Rattle.std.specs.List.Sorted.{IsStrictlySortedBy}
use Rattle.std.specs.FinMap.{FinMap, IsAntisymmetric, empty, entries, entries-insert, from_entries, get, insert, len-empty, len-entries, same_map, values}
use Rattle.std.specs.FinMap.Entries.{by_order, put}
use Rattle.std.proofs.lemmas.List.Sums.{sum_by-cons}
use Rattle.std.proofs.lemmas.Map.{lookup-none}
use Rattle.std.proofs.lemmas.Map.Entries.{none_below_head, none_past_head}
use Rattle.std.proofs.lemmas.Map.Keys.{IsDistinct-from_sorted, IsDistinct-tail, sorted_tail}
use Rattle.git_name.proofs.SortedNames.{sorted_entries}
use Rattle.git_name.proofs.TreeMaps.{entries_after_insert, get_of_entries}
use Rattle.object_table.specs.Chosen.{chosen, chosen_in}
use Rattle.object_table.proofs.ChosenLemmas.{entries_at, entries_chosen, get_chosen}

-- the sum over entries
abbrev pub sum_in : {K X : Type 0} → (X → ℕ) → List (K × X) → ℕ
sum_in f es = sum_by f (values_of es)

-- what a value counts for; one that is not there counts for nothing
abbrev pub worth : {X : Type 0} → (X → ℕ) → Option X → ℕ
worth f o = option_map_or f o 0

pub sum_in-cons : {K X : Type 0} (f : X → ℕ) (e : K × X) (es : List (K × X)) → sum_in f (e ∷ es) ≡ f e.1 + sum_in f es
sum_in-cons f e es = sum_by-cons f e.1 (values_of es)

-- ---- one value is set
worth_none : {X : Type 0} (f : X → ℕ) (o : Option X) → o ≡ None → worth f o ≡ 0
worth_none f o is = ap (worth f) is

put_in : {K X : Type 0} {R : K → K → Ordering} → IsTotalOrder R → (f : X → ℕ) (k : K) (v : X) (e : K × X) (es : List (K × X)) (r : Ordering) → R k e.0 ≡ r → IsStrictlySortedBy R (keys_of (e ∷ es))
    → sum_in f (put R k v es) + worth f (lookup (is_at (R k)) es) ≡ sum_in f es + f v
    → sum_in f (by_order r ((k, v) ∷ e ∷ es) ((e.0, v) ∷ es) (e ∷ put R k v es)) + worth f (cond (is_eq r) (Some e.1) (lookup (is_at (R k)) es)) ≡ sum_in f (e ∷ es) + f v
put_in {R = R} total f k v e es Less at sorted rest =
    let first = sum_in-cons f (k, v) (e ∷ es) in
    let none : worth f (lookup (is_at (R k)) es) ≡ 0 = worth_none f _ (lookup-none (is_at (R k)) es (none_below_head total k e es sorted at).1) in
    omega (arith, first, none)
put_in total f k v e es Equal at sorted rest =
    let now = sum_in-cons f (e.0, v) es in
    let before = sum_in-cons f e es in
    omega (arith, now, before)
put_in {R = R} total f k v e es Greater at sorted rest =
    let now = sum_in-cons f e (put R k v es) in
    let before = sum_in-cons f e es in
    omega (arith, now, before, rest)

sum_put : {K X : Type 0} {R : K → K → Ordering} → IsTotalOrder R → (f : X → ℕ) (k : K) (v : X) (es : List (K × X)) → IsStrictlySortedBy R (keys_of es)
    → sum_in f (put R k v es) + worth f (lookup (is_at (R k)) es) ≡ sum_in f es + f v
sum_put total f k v [] sorted = (let one = sum_in-cons f (k, v) [] in omega (arith, one))
sum_put {R = R} total f k v (e ∷ es) sorted = put_in total f k v e es (R k e.0) refl sorted (sum_put total f k v es (sorted_tail R e.0 (keys_of es) sorted))

-- the sum, after a value is set
pub sum_insert : {K X : Type 0} {R : K → K → Ordering} → IsTotalOrder R → (f : X → ℕ) (m : FinMap R X) (k : K) (v : X)
    → sum_by f (values (insert m k v)) + worth f (get m k) ≡ sum_by f (values m) + f v
sum_insert {R = R} total f m k v =
    ap (λ es. sum_in f es + worth f (get m k)) (entries-insert total m k v) ∙ ap (λ o. sum_in f (put R k v (entries m)) + worth f o) (sym (entries_at m k))
    ∙ sum_put total f k v (entries m) (sorted_entries m)

none_left : {A : Type 0} (xs : List A) → length xs ≡ 0 → xs ≡ []
none_left [] is = refl
none_left (x ∷ xs) is = absurd (omega (arith, is))

pub entries_of_none : {K X : Type 0} (R : K → K → Ordering) → entries (empty {K = K} {X = X} {R = R}) ≡ []
entries_of_none {X = X} R = none_left _ (sym (len-entries (empty {X = X} {R = R})) ∙ len-empty R X)

-- nothing sums up to nothing
pub sum_empty : {K X : Type 0} (R : K → K → Ordering) (f : X → ℕ) → sum_by f (values (empty {K = K} {X = X} {R = R})) ≡ 0
sum_empty R f = ap (sum_in f) (entries_of_none R)

-- ---- entries in no order
from_cons : {K X : Type 0} {R : K → K → Ordering} → IsTotalOrder R → IsAntisymmetric R → (e : K × X) (es : List (K × X)) → from_entries {R = R} (e ∷ es) ≡ insert (from_entries es) e.0 e.1
from_cons {R = R} total exact e es = entries_after_insert total exact es (e ∷ es) e.0 e.1 (λ q. ap (λ b. cond b (Some e.1) (lookup (is_at (R q)) es)) ((eq_by_cmp_equiv total).symm q e.0))

-- entries under different keys sum up to what their finite map does
pub sum_of_distinct : {K X : Type 0} {R : K → K → Ordering} → IsTotalOrder R → IsAntisymmetric R → (f : X → ℕ) (es : List (K × X)) → IsDistinct (eq_by_cmp R) (keys_of es)
    → sum_in f es ≡ sum_by f (values (from_entries {R = R} es))
sum_of_distinct {R = R} total exact f [] distinct = sym (sum_empty R f)
sum_of_distinct {R = R} total exact f (e ∷ es) distinct =
    let first = sum_in-cons f e es in
    let rest = sum_of_distinct total exact f es (IsDistinct-tail (eq_by_cmp R) e.0 (keys_of es) distinct) in
    let put = sum_insert total f (from_entries {R = R} es) e.0 e.1 in
    let none : worth f (get (from_entries {R = R} es) e.0) ≡ 0 =
    ap (worth f) (get_of_entries total es e.0 ∙ lookup-none (is_at (R e.0)) es (none_past_head (eq_by_cmp_equiv total) e.0 e es distinct ((eq_by_cmp_equiv total).refl e.0))) in
    let is = ap (λ m. sum_by f (values m)) (from_cons total exact e es) in
    omega (arith, first, rest, put, none, is)

-- ---- maps whose values count for the same at each key
some_of : ℕ → Option ℕ
some_of zero = None
some_of (suc n) = Some (suc n)

counting : {K X : Type 0} → (X → ℕ) → K → X → Option ℕ
counting f k x = some_of (f x)

counted_head : {K : Type 0} (k : K) (n total : ℕ) (rest : List (K × ℕ)) → sum_in (λ i. i) rest ≡ total → sum_in (λ i. i) (cons_option (option_map (λ y. (k, y)) (some_of n)) rest) ≡ n + total
unfolding some_of
counted_head k zero total rest is = is ∙ sym (nothing_more total)
  where
    nothing_more : (n : ℕ) → 0 + n ≡ n
    nothing_more n = omega arith
counted_head k (suc n) total rest is = sum_in-cons (λ i. i) (k, suc n) rest ∙ ap (λ i. suc n + i) is

sum_counted : {K X : Type 0} (f : X → ℕ) (es : List (K × X)) → sum_in (λ i. i) (chosen_in (counting f) es) ≡ sum_in f es
unfolding counting
sum_counted f [] = refl
sum_counted f (e ∷ es) = counted_head e.0 (f e.1) (sum_in f es) (chosen_in (counting f) es) (sum_counted f es) ∙ sym (sum_in-cons f e es)

worth_counted : {X : Type 0} (f : X → ℕ) (o : Option X) → option_and_then (λ x. some_of (f x)) o ≡ some_of (worth f o)
unfolding some_of
worth_counted f None = refl
worth_counted f (Some x) = refl

sum_chosen : {K X : Type 0} {R : K → K → Ordering} → IsTotalOrder R → (f : X → ℕ) (m : FinMap R X) → sum_by f (values m) ≡ sum_by (λ i. i) (values (chosen (counting f) m))
sum_chosen total f m = sym (ap (sum_in (λ i. i)) (entries_chosen total (counting f) m) ∙ sum_counted f (entries m))

at_counted : {K X : Type 0} {R : K → K → Ordering} → IsTotalOrder R → IsAntisymmetric R → (f : X → ℕ) (m : FinMap R X) (q : K) → get (chosen (counting f) m) q ≡ some_of (worth f (get m q))
unfolding counting
at_counted total exact f m q = get_chosen total exact (counting f) m q ∙ worth_counted f (get m q)

pub same_sums : {K X Y : Type 0} {R : K → K → Ordering} → IsTotalOrder R → IsAntisymmetric R → (f : X → ℕ) (g : Y → ℕ) (m : FinMap R X) (n : FinMap R Y)
    → ((q : K) → worth f (get m q) ≡ worth g (get n q)) → sum_by f (values m) ≡ sum_by g (values n)
same_sums total exact f g m n same =
    sum_chosen total f m
    ∙ ap (λ c. sum_by (λ i. i) (values c)) (same_map total exact _ _ (λ q. at_counted total exact f m q ∙ ap some_of (same q) ∙ sym (at_counted total exact g n q)))
    ∙ sym (sum_chosen total g n)

-- ---- a value and the sum
part_of : {K X : Type 0} (test : K → Bool) (f : X → ℕ) (es : List (K × X)) → worth f (lookup test es) ≤ sum_in f es
part_of test f [] = omega arith
part_of test f (e ∷ es) = by (test e.0) (part_of test f es)
  where
    all : sum_in f (e ∷ es) ≡ f e.1 + sum_in f es
    all = sum_in-cons f e es

    by : (b : Bool) → worth f (lookup test es) ≤ sum_in f es → worth f (cond b (Some e.1) (lookup test es)) ≤ sum_in f (e ∷ es)
    by true rest = omega (arith, all)
    by false rest = omega (arith, all, rest)

-- a value counts for no more than all
pub worth_within : {K X : Type 0} {R : K → K → Ordering} (f : X → ℕ) (m : FinMap R X) (k : K) → worth f (get m k) ≤ sum_by f (values m)
worth_within {R = R} f m k = subst (λ o. worth f o ≤ sum_by f (values m)) (entries_at m k) (part_of (is_at (R k)) f (entries m))

none_is_some : {A : Type 0} (G : Type 0) (o : Option A) (x : A) → o ≡ None → o ≡ Some x → G
none_is_some G o x none some = (let bad : None ≡ Some x = sym none ∙ some in let differs : ⊥ = cc in absurd differs)

-- a key whose value counts
abbrev pub Counts : {K X : Type 0} → (K → K → Ordering) → (X → ℕ) → List (K × X) → Type 0
Counts {K} {X} R f es = (k : K) × (v : X) × (lookup (is_at (R k)) es ≡ Some v) × (0 < f v)

counts_first : {K X : Type 0} {R : K → K → Ordering} → IsTotalOrder R → (f : X → ℕ) (e : K × X) (es : List (K × X)) → 0 < f e.1 → Counts R f (e ∷ es)
counts_first {R = R} total f e es some = (e.0, e.1, ap (λ b. cond b (Some e.1) (lookup (is_at (R e.0)) es)) ((eq_by_cmp_equiv total).refl e.0), some)

counts_later : {K X : Type 0} {R : K → K → Ordering} → IsTotalOrder R → (f : X → ℕ) (e : K × X) (es : List (K × X)) → IsStrictlySortedBy R (keys_of (e ∷ es)) → Counts R f es → Counts R f (e ∷ es)
counts_later {R = R} total f e es sorted (k, v, here, some) = (k, v, by (is_at (R k) e.0) refl, some)
  where
    by : (b : Bool) → is_at (R k) e.0 ≡ b → cond b (Some e.1) (lookup (is_at (R k)) es) ≡ Some v
    by true at = none_is_some _ (lookup (is_at (R k)) es) v (lookup-none (is_at (R k)) es (none_past_head (eq_by_cmp_equiv total) k e es (IsDistinct-from_sorted R (keys_of (e ∷ es)) sorted) at)) here
    by false at = here

counts_in : {K X : Type 0} {R : K → K → Ordering} → IsTotalOrder R → (f : X → ℕ) (es : List (K × X)) → IsStrictlySortedBy R (keys_of es) → 0 < sum_in f es → Counts R f es
counts_in total f [] sorted some = absurd (omega (arith, some))
counts_in {K} {X} {R} total f (e ∷ es) sorted some = by (f e.1) refl (counts_in total f es (sorted_tail R e.0 (keys_of es) sorted))
  where
    by : (n : ℕ) → f e.1 ≡ n → (0 < sum_in f es → Counts R f es) → Counts R f (e ∷ es)
    by zero is rest = counts_later total f e es sorted (rest (omega (arith, is, some, sum_in-cons f e es)))
    by (suc n) is rest = counts_first total f e es (omega (arith, is))

-- where a sum is more than nothing, some value counts
pub counts_some : {K X : Type 0} {R : K → K → Ordering} → IsTotalOrder R → (f : X → ℕ) (m : FinMap R X) → 0 < sum_by f (values m) → (k : K) × (v : X) × (get m k ≡ Some v) × (0 < f v)
counts_some total f m some = (let c = counts_in total f (entries m) (sorted_entries m) some in (c.0, c.1, sym (entries_at m c.0) ∙ c.2, c.3))
