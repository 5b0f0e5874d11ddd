-- Lists with one more element appended.
use Rattle.std.proofs.Common.{◌≡◌, ℕ, ◌+◌, ◌-◌, ◌≤◌, List, [], ◌∷◌, ◌++◌, ◌⊎◌, inl, inr, ⊎_elim, Some, refl, sym, ap, subst, ◌∙◌, length, get_or, map, length-append, arith}
use Rattle.std.specs.List.{AllByRecursion, slice_get}
use Rattle.std.specs.List.Sorted.{IsStrictlySortedBy}
use Rattle.std.specs.declared.cmp.Ordering.TheVariants.{Less}
use Rattle.std.proofs.lemmas.Bool.{cases_lt}
use Rattle.std.proofs.lemmas.List.{get_or-map, length-map}
use Rattle.std.proofs.lemmas.List.Elements.{All-head, All-tail}
use Rattle.std.proofs.lemmas.Map.Keys.{Less-from_sorted}
use Rattle.std.proofs.lemmas.Map.Views.{All-before_last}
use Rattle.std.proofs.lemmas.Option.{get_or_from_slice_get, slice_get_within}
use Rattle.git_name.specs.Name.{name_cmp}
use Rattle.git_name.proofs.Names.{name_total}
use Rattle.state_text.specs.Adding.{AreBefore}
use Rattle.state_text.specs.States.{Ascend}

pub each_behind : {A : Type 0} (P : A → Type 0) (xs : List A) (x : A) → AllByRecursion P xs → P x → AllByRecursion P (xs ++ x ∷ [])
each_behind P [] x each last = (last, tt)
each_behind P (y ∷ xs) x each last = (each.0, each_behind P xs x each.1 last)

pub each_front : {A : Type 0} (P : A → Type 0) (xs : List A) (x : A) → AllByRecursion P (xs ++ x ∷ []) → AllByRecursion P xs
each_front P [] x each = tt
each_front P (y ∷ xs) x each = (each.0, each_front P xs x each.1)

pub each_last : {A : Type 0} (P : A → Type 0) (xs : List A) (x : A) → AllByRecursion P (xs ++ x ∷ []) → P x
each_last P [] x each = each.0
each_last P (y ∷ xs) x each = each_last P xs x each.1

pub map_behind : {A B : Type 0} (f : A → B) (xs : List A) (x : A) → map f (xs ++ x ∷ []) ≡ map f xs ++ f x ∷ []
map_behind f [] x = refl
map_behind f (y ∷ xs) x = ap (λ l. f y ∷ l) (map_behind f xs x)

pub ascend_behind : (ks : List (List ℕ)) (k : List ℕ) → Ascend ks → AreBefore ks k → Ascend (ks ++ k ∷ [])
unfolding IsStrictlySortedBy
ascend_behind [] k sorted before = (tt, tt)
ascend_behind (x ∷ ks) k sorted before =
    (each_behind (λ y. name_cmp x y ≡ Less) ks k sorted.0 (All-head (λ y. name_cmp y k ≡ Less) x ks before), ascend_behind ks k sorted.1 (All-tail (λ y. name_cmp y k ≡ Less) x ks before))

pub ascend_front : (ks : List (List ℕ)) (k : List ℕ) → Ascend (ks ++ k ∷ []) → Ascend ks
unfolding IsStrictlySortedBy
ascend_front [] k sorted = tt
ascend_front (x ∷ ks) k sorted = (each_front (λ y. name_cmp x y ≡ Less) ks k sorted.0, ascend_front ks k sorted.1)

pub before_last : (ks : List (List ℕ)) (k : List ℕ) → Ascend (ks ++ k ∷ []) → AreBefore ks k
before_last ks k sorted = All-before_last name_cmp ks k sorted

pub ascend_none : Ascend []
unfolding IsStrictlySortedBy
ascend_none = tt

-- of names in order, only the last needs to be compared
pub follows_all : {A : Type 0} (f : A → List ℕ) (xs : List A) (last : A) (name : List ℕ) → Ascend (map f xs) → slice_get xs (length xs - 1) ≡ Some last → name_cmp (f last) name ≡ Less → AreBefore (map f xs) name
follows_all f xs last name sorted is first k d within =
    let place = length xs - 1 in
    let inside = slice_get_within xs place last is in
    let long : length (map f xs) ≡ length xs = length-map xs f in
    let at : get_or (map f xs) place d ≡ f last = get_or-map f xs place last d inside ∙ ap f (get_or_from_slice_get xs place last last is) in
    let at_last : name_cmp (get_or (map f xs) place d) name ≡ Less = ap (λ (n : List ℕ). name_cmp n name) at ∙ first in
    ⊎_elim
    (λ less. name_total.trans (get_or (map f xs) k d) (get_or (map f xs) place d) name (Less-from_sorted name_cmp (map f xs) k place d sorted less (omega (arith, long, inside))) at_last)
    (λ not. (let same : place ≡ k = omega (arith, long, inside, within) in subst (λ j. name_cmp (get_or (map f xs) j d) name ≡ Less) same at_last))
    (cases_lt k place)

-- a list is empty, or has a last element
pub record HasLast {A : Type 0} (xs : List A) : Type 0 where
  pub front : List A
  pub last : A
  pub is : xs ≡ front ++ last ∷ []

pub from_back : {A : Type 0} (xs : List A) → (xs ≡ []) ⊎ HasLast xs
from_back [] = inl refl
from_back {A = A} (x ∷ xs) = inr (⊎_elim none some (from_back xs))
  where
    none : xs ≡ [] → HasLast (x ∷ xs)
    none is = record { front = []; last = x; is = ap (λ (l : List A). x ∷ l) is }

    some : HasLast xs → HasLast (x ∷ xs)
    some has = record { front = x ∷ has.front; last = has.last; is = ap (λ (l : List A). x ∷ l) has.is }

long_behind : {A : Type 0} (xs : List A) (x : A) → length (xs ++ x ∷ []) ≡ length xs + 1
long_behind xs x = length-append xs (x ∷ [])

pub length_behind : {A : Type 0} (xs : List A) (x : A) → length (xs ++ x ∷ []) ≡ length xs + 1
length_behind xs x = long_behind xs x

-- equal lists have the same last element and the same others
pub same_behind : {A : Type 0} (xs ys : List A) (x y : A) → xs ++ x ∷ [] ≡ ys ++ y ∷ [] → (xs ≡ ys) × (x ≡ y)
same_behind [] [] x y is = (refl, cc)
same_behind [] (b ∷ ys) x y is = absurd (let long : 1 ≡ length (b ∷ (ys ++ y ∷ [])) = ap (λ l. length l) is in let more = long_behind ys y in omega (arith, more))
same_behind (a ∷ xs) [] x y is = absurd (let long : length (a ∷ (xs ++ x ∷ [])) ≡ 1 = ap (λ l. length l) is in let more = long_behind xs x in omega (arith, more))
same_behind {A = A} (a ∷ xs) (b ∷ ys) x y is =
    let head : a ≡ b = cc in
    let tail : xs ++ x ∷ [] ≡ ys ++ y ∷ [] = cc in
    let rest = same_behind xs ys x y tail in
    (λ i. head i ∷ rest.0 i, rest.1)

pub map_same : {A : Type 0} (xs : List A) → map (λ x. x) xs ≡ xs
map_same [] = refl
map_same (x ∷ xs) = ap (λ l. x ∷ l) (map_same xs)

pub get_or_last : {A : Type 0} (xs : List A) (x d : A) → get_or (xs ++ x ∷ []) (length xs) d ≡ x
get_or_last [] x d = refl
get_or_last (y ∷ xs) x d = get_or_last xs x d

-- the element at the last index is the last one
pub last_is : {A : Type 0} (xs : List A) (x y : A) → slice_get (xs ++ x ∷ []) (length (xs ++ x ∷ []) - 1) ≡ Some y → x ≡ y
last_is xs x y is =
    let long = long_behind xs x in
    let place : length (xs ++ x ∷ []) - 1 ≡ length xs = omega (arith, long) in
    sym (get_or_last xs x y) ∙ ap (λ n. get_or (xs ++ x ∷ []) n y) (sym place) ∙ get_or_from_slice_get (xs ++ x ∷ []) (length (xs ++ x ∷ []) - 1) y y is

pub nothing_in : {A : Type 0} (xs : List A) → length xs ≤ 0 → xs ≡ []
nothing_in [] none = refl
nothing_in (x ∷ xs) none = absurd (omega arith)

-- what comes after all comes after the last one
pub last_before : {A : Type 0} (f : A → List ℕ) (xs : List A) (last : A) (name : List ℕ) → slice_get xs (length xs - 1) ≡ Some last → AreBefore (map f xs) name → name_cmp (f last) name ≡ Less
last_before f xs last name is all =
    let place = length xs - 1 in
    let inside = slice_get_within xs place last is in
    let long : length (map f xs) ≡ length xs = length-map xs f in
    let at : get_or (map f xs) place (f last) ≡ f last = get_or-map f xs place last (f last) inside ∙ ap f (get_or_from_slice_get xs place last last is) in
    ap (λ (n : List ℕ). name_cmp n name) (sym at) ∙ all place (f last) (omega (arith, long, inside))

pub nothing_at : {A : Type 0} (xs ys : List A) → ys ≡ xs → length ys ≤ 0 → xs ≡ []
nothing_at xs ys is none = nothing_in xs (let long = ap (λ l. length l) is in omega (arith, long, none))
