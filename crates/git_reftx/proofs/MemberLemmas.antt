-- Names of a list, and the first of an ordered list that passes a test.
use Rattle.std.proofs.Common.{◌≡◌, ℕ, Bool, true, false, cond, ◌||◌, List, [], ◌∷◌, ◌⊎◌, inl, inr, ⊎_elim, Option, None, Some, refl, sym, ap, subst, ◌∙◌}
use Rattle.std.specs.List.{find, list_any}
use Rattle.std.specs.List.Sorted.{IsStrictlySortedBy}
use Rattle.std.specs.List.{AllByRecursion}
use Rattle.std.proofs.lemmas.Map.Keys.{sorted_head, sorted_tail}
use Rattle.git_name.specs.Name.{name_cmp}
use Rattle.git_reftx.specs.Fronts.{Before, In, Bounds}
use Rattle.git_reftx.proofs.OrderLemmas.{never_both}

or_true : (a b : Bool) → (a || b) ≡ true → (a ≡ true) ⊎ (b ≡ true)
or_true true b is = inl refl
or_true false b is = inr is

pub any_in : (test : List ℕ → Bool) (names : List (List ℕ)) → list_any test names ≡ true → (p : List ℕ) × In p names × (test p ≡ true)
any_in test [] is = absurd (cc)
any_in test (q ∷ qs) is = ⊎_elim (λ here. (q, inl refl, here)) (λ later. let found = any_in test qs later in (found.0, inr found.1, found.2)) (or_true (test q) (list_any test qs) is)

right_true : (a b : Bool) → b ≡ true → (a || b) ≡ true
right_true true b is = refl
right_true false b is = is

pub in_any : (test : List ℕ → Bool) (names : List (List ℕ)) (p : List ℕ) → In p names → test p ≡ true → list_any test names ≡ true
in_any test [] p inside passes = absurd inside
in_any test (q ∷ qs) p (inl is) passes = ap (λ a. a || list_any test qs) (ap test (sym is) ∙ passes)
in_any test (q ∷ qs) p (inr later) passes = right_true (test q) (list_any test qs) (in_any test qs p later passes)

all_in : (k : List ℕ) (ks : List (List ℕ)) → AllByRecursion (λ y. Before k y) ks → (p : List ℕ) → In p ks → Before k p
all_in k [] all p inside = absurd inside
all_in k (x ∷ xs) all p (inl is) = subst (λ y. Before k y) (sym is) all.0
all_in k (x ∷ xs) all p (inr later) = all_in k xs all.1 p later

-- the first of an ordered list comes before the others
pub first_before : (k : List ℕ) (ks : List (List ℕ)) → IsStrictlySortedBy name_cmp (k ∷ ks) → (p : List ℕ) → In p ks → Before k p
first_before k ks sorted = all_in k ks (sorted_head name_cmp k ks sorted)

-- the least name of an ordered list that passes is the first one
pub find_least : (test : List ℕ → Bool) (names : List (List ℕ)) (least : Option (List ℕ)) → IsStrictlySortedBy name_cmp names
    → ((u : List ℕ) → least ≡ Some u → In u names × (test u ≡ true)) → ((v : List ℕ) → In v names → test v ≡ true → Bounds least v) → find test names ≡ least
find_least test [] None sorted found bound = refl
find_least test [] (Some u) sorted found bound = absurd (found u refl).0
find_least test (x ∷ xs) least sorted found bound = by_test (test x) refl (find_least test xs least (sorted_tail name_cmp x xs sorted))
  where
    is_first : (o : Option (List ℕ)) → least ≡ o → Bounds o x → Some x ≡ o
    is_first None is bounded = absurd bounded
    is_first (Some u) is (inl same) = ap (λ y. Some y) (sym same)
    is_first (Some u) is (inr earlier) = ⊎_elim (λ same. ap (λ y. Some y) (sym same)) (λ later. absurd (never_both u x earlier (first_before x xs sorted u later))) (found u is).0

    at_left : (b : Bool) → test x ≡ b → b ≡ false → (u : List ℕ) → In u (x ∷ xs) × (test u ≡ true) → In u xs × (test u ≡ true)
    at_left b is fails u (inl same, passes) = absurd (cc (sym fails ∙ sym is ∙ ap test (sym same) ∙ passes))
    at_left b is fails u (inr later, passes) = (later, passes)

    by_test : (b : Bool) → test x ≡ b
        → (((u : List ℕ) → least ≡ Some u → In u xs × (test u ≡ true)) → ((v : List ℕ) → In v xs → test v ≡ true → Bounds least v) → find test xs ≡ least)
        → cond (test x) (Some x) (find test xs) ≡ least
    by_test true is others = ap (λ b. cond b (Some x) (find test xs)) is ∙ is_first least refl (bound x (inl refl) is)
    by_test false is others = ap (λ b. cond b (Some x) (find test xs)) is ∙ others (λ u least_is. at_left false is refl u (found u least_is)) (λ v inside passes. bound v (inr inside) passes)

found_in : (b : Bool) (x u : List ℕ) (xs : List (List ℕ)) (o : Option (List ℕ)) → cond b (Some x) o ≡ Some u → (o ≡ Some u → In u xs) → In u (x ∷ xs)
found_in true x u xs o is later = inl cc
found_in false x u xs o is later = inr (later is)

-- what is found is in the list
pub find_inside : (test : List ℕ → Bool) (names : List (List ℕ)) (u : List ℕ) → find test names ≡ Some u → In u names
find_inside test [] u is = absurd (cc)
find_inside test (x ∷ xs) u is = found_in (test x) x u xs (find test xs) is (find_inside test xs u)
