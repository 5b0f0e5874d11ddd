-- Facts about each entry, some entry, and each entry and every one after it.
use Rattle.std.proofs.Common.{◌≡◌, ◌≢◌, ℕ, suc, ◌⊎◌, inl, inr, List, [], ◌∷◌, ◌++◌, map, refl, sym, subst, arith}
use Rattle.std.specs.List.{AllByRecursion, AllPairs, Any}
use Rattle.std.specs.List.Sorted.{IsStrictlySortedBy}
use Rattle.std.specs.declared.cmp.Ordering.{Ordering}
use Rattle.std.specs.declared.cmp.Ordering.TheVariants.{Less, Equal, Greater}
use Rattle.std.proofs.lemmas.List.Elements.{recursion_from_All, All-from_recursion}
use Rattle.std.proofs.lemmas.List.Kept.{AllPairs-cons}
use Rattle.git_name.specs.Name.{name_cmp}
use Rattle.git_tree.specs.Entry.{Entry, entry_key}
use Rattle.git_tree.specs.Tree.{IsBelow}

pub all_map : {P Q : Entry → Type 0} (xs : List Entry) → ((x : Entry) → P x → Q x) → AllByRecursion P xs → AllByRecursion Q xs
all_map [] f all = tt
all_map {P} {Q} (x ∷ xs) f all = (f x all.0, all_map {P = P} {Q = Q} xs f all.1)

pub all_push : (P : Entry → Type 0) (xs : List Entry) (x : Entry) → AllByRecursion P xs → P x → AllByRecursion P (xs ++ x ∷ [])
all_push P [] x all one = (one, tt)
all_push P (y ∷ ys) x all one = (all.0, all_push P ys x all.1 one)

pub all_last : (P : Entry → Type 0) (xs : List Entry) (x : Entry) → AllByRecursion P (xs ++ x ∷ []) → P x
all_last P [] x all = all.0
all_last P (y ∷ ys) x all = all_last P ys x all.1

-- what holds of all holds of each one among them
pub all_at : (P : Entry → Type 0) (front : List Entry) (e : Entry) (more : List Entry) → AllByRecursion P (front ++ e ∷ more) → P e
all_at P [] e more all = all.0
all_at P (a ∷ front) e more all = all_at P front e more all.1

pub any_here : (P : Entry → Type 0) (x : Entry) (xs : List Entry) → P x → Any P (x ∷ xs)
any_here P x xs one = (0, x, omega arith, refl, one)

pub any_behind : (P : Entry → Type 0) (x : Entry) (xs : List Entry) → Any P xs → Any P (x ∷ xs)
any_behind P x xs any = (suc any.0, any.1, omega (arith, any.2), any.3, any.4)

-- what holds of none does not hold of some
pub none_of_any : (P : Entry → Type 0) (xs : List Entry) → AllByRecursion (λ x. P x → ⊥) xs → Any P xs → ⊥
none_of_any P xs none any =
    All-from_recursion (λ x. P x → ⊥) xs none any.0 any.1 any.2 (subst P (sym any.3) any.4)

less_or_not : (o : Ordering) → (o ≡ Less) ⊎ (o ≢ Less)
less_or_not Less = inl refl
less_or_not Equal = inr (λ h. cc)
less_or_not Greater = inr (λ h. cc)

-- a key that is not above all keys is not above some key
pub any_not_below : (front : List Entry) (e : Entry) → (AllByRecursion (λ a. IsBelow a e) front → ⊥) → Any (λ a. IsBelow a e → ⊥) front
any_not_below [] e refused = absurd (refused tt)
any_not_below (a ∷ front) e refused =
    elim (less_or_not (name_cmp (entry_key a) (entry_key e))) [
      | inl less ↦ any_behind (λ a. IsBelow a e → ⊥) a front (any_not_below front e (λ all. refused (less, all)))
      | inr not ↦ any_here (λ a. IsBelow a e → ⊥) a front not
    ]

-- each entry and each one after it, entry by entry
abbrev pub Pairs : (Entry → Entry → Type 0) → List Entry → Type 0
Pairs R [] = Unit {0}
Pairs R (e ∷ es) = AllByRecursion (R e) es × Pairs R es

pub pairs_of_all : (R : Entry → Entry → Type 0) (es : List Entry) → AllPairs R es → Pairs R es
pairs_of_all R [] all = tt
pairs_of_all R (e ∷ es) all = (
  recursion_from_All (R e) es (λ k d within. all 0 (suc k) d (omega arith) (omega (arith, within))),
  pairs_of_all R es (λ i j d below within. all (suc i) (suc j) d (omega (arith, below)) (omega (arith, within))),
)

pub all_of_pairs : (R : Entry → Entry → Type 0) (es : List Entry) → Pairs R es → AllPairs R es
all_of_pairs R [] pairs = λ i j d below within. absurd (omega (arith, within))
all_of_pairs R (e ∷ es) pairs = AllPairs-cons R e es (All-from_recursion (R e) es pairs.0) (all_of_pairs R es pairs.1)

keys_of_all : (k : List ℕ) (es : List Entry) → AllByRecursion (λ e. name_cmp k (entry_key e) ≡ Less) es → AllByRecursion (λ l. name_cmp k l ≡ Less) (map entry_key es)
keys_of_all k [] all = tt
keys_of_all k (e ∷ es) all = (all.0, keys_of_all k es all.1)

all_of_keys : (k : List ℕ) (es : List Entry) → AllByRecursion (λ l. name_cmp k l ≡ Less) (map entry_key es) → AllByRecursion (λ e. name_cmp k (entry_key e) ≡ Less) es
all_of_keys k [] all = tt
all_of_keys k (e ∷ es) all = (all.0, all_of_keys k es all.1)

pub pairs_of_sorted : (es : List Entry) → IsStrictlySortedBy name_cmp (map entry_key es) → Pairs IsBelow es
unfolding IsStrictlySortedBy
pairs_of_sorted [] sorted = tt
pairs_of_sorted (e ∷ es) sorted = (all_of_keys (entry_key e) es sorted.0, pairs_of_sorted es sorted.1)

pub sorted_of_pairs : (es : List Entry) → Pairs IsBelow es → IsStrictlySortedBy name_cmp (map entry_key es)
unfolding IsStrictlySortedBy
sorted_of_pairs [] pairs = tt
sorted_of_pairs (e ∷ es) pairs = (keys_of_all (entry_key e) es pairs.0, sorted_of_pairs es pairs.1)

pub sorted_none : IsStrictlySortedBy name_cmp (map entry_key [])
unfolding IsStrictlySortedBy
sorted_none = tt

pub pairs_push : (R : Entry → Entry → Type 0) (es : List Entry) (e : Entry) → Pairs R es → AllByRecursion (λ a. R a e) es → Pairs R (es ++ e ∷ [])
pairs_push R [] e pairs all = (tt, tt)
pairs_push R (a ∷ es) e pairs all = (all_push (R a) es e pairs.0 all.0, pairs_push R es e pairs.1 all.1)

-- each entry before one is so related to it
pub pairs_at : (R : Entry → Entry → Type 0) (front : List Entry) (e : Entry) (more : List Entry) → Pairs R (front ++ e ∷ more) → AllByRecursion (λ a. R a e) front
pairs_at R [] e more pairs = tt
pairs_at R (a ∷ front) e more pairs = (all_at (R a) front e more pairs.0, pairs_at R front e more pairs.1)
