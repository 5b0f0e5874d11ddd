-- Names that are held, and lists of them.
use Rattle.std.proofs.Common.{◌≡◌, ℕ, ◌≤◌, List, [], ◌∷◌, ◌++◌, ◌||◌, length, Bool, true, false, refl, sym, ap, ◌∙◌, arith}
use Rattle.std.specs.List.{AllByRecursion}
use Rattle.std.proofs.lemmas.Bool.Decides.{Decides-eqb}
use Rattle.std.proofs.lemmas.Slice.Eq.{slice_eq-Decides}
use Rattle.git_name.specs.Same.{is_listed, same_name}

-- each of these names is held
abbrev pub Each : (List ℕ → Bool) → List (List ℕ) → Type 0
Each held names = AllByRecursion (λ name. held name ≡ true) names

pub each_both : (held : List ℕ → Bool) (xs ys : List (List ℕ)) → Each held xs → Each held ys → Each held (xs ++ ys)
each_both held [] ys h k = k
each_both held (x ∷ xs) ys h k = (h.0, each_both held xs ys h.1 k)

pub each_back : (held : List ℕ → Bool) (xs ys : List (List ℕ)) → Each held (xs ++ ys) → Each held ys
each_back held [] ys h = h
each_back held (x ∷ xs) ys h = each_back held xs ys h.1

pub empty_of : {X : Type 0} (xs : List X) → length xs ≤ 0 → xs ≡ []
empty_of [] h = refl
empty_of (x ∷ xs) h = absurd (omega (arith, h))

-- two fronts of one list with the same length are the same
pub same_front : {X : Type 0} (xs ys zs ws : List X) → xs ++ ys ≡ zs ++ ws → length xs ≡ length zs → xs ≡ zs
same_front [] ys [] ws e n = refl
same_front [] ys (z ∷ zs) ws e n = absurd (omega (arith, n))
same_front (x ∷ xs) ys [] ws e n = absurd (omega (arith, n))
same_front {X} (x ∷ xs) ys (z ∷ zs) ws e n =
    ap (λ a. a ∷ xs) (ap (λ l. first l x) e) ∙ ap (λ l. z ∷ l) (same_front xs ys zs ws (ap rest e) (omega (arith, n)))
  where
    first : List X → X → X
    first [] d = d
    first (a ∷ l) d = a

    rest : List X → List X
    rest [] = []
    rest (a ∷ l) = l

-- nothing is both true and false
pub true_false : (G : Type 0) (b : Bool) → b ≡ true → b ≡ false → G
true_false G b t f = let bad : true ≡ false = sym t ∙ f in let no : ⊥ = cc in absurd no

-- names that agree byte by byte are the same
pub one_name : (x y : List ℕ) → same_name x y ≡ true → x ≡ y
one_name x y e = (slice_eq-Decides Decides-eqb x y (same_name x y) refl).0 e

-- a name listed among held ones is held
pub listed_held : (held : List ℕ → Bool) (names : List (List ℕ)) (name : List ℕ) → Each held names → is_listed names name ≡ true → held name ≡ true
listed_held held [] name all is = true_false _ true refl (sym is)
listed_held held (x ∷ xs) name all is = by (same_name name x) refl (listed_held held xs name all.1)
  where
    by : (b : Bool) → same_name name x ≡ b → (is_listed xs name ≡ true → held name ≡ true) → held name ≡ true
    by true e later = ap held (one_name name x e) ∙ all.0
    by false e later = later (sym (ap (λ b. b || is_listed xs name) e) ∙ is)
