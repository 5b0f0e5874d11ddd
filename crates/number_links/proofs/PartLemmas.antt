-- Numbers in parts of one size: one part is written anew, or all are put together with those of another list, one after another.
use Rattle.std.proofs.Common.{◌≡◌, ◌≢◌, ℕ, ◌+◌, ◌<◌, ◌≤◌, Bool, true, false, cond, nat_eq, nat_lt, List, length, get_or, set, refl, sym, ap, ◌∙◌, arith}
use Rattle.std.proofs.lemmas.Bool.{eq-eqb, eqb-false, eqb-true, ltb-true, ltb-false}
use Rattle.std.proofs.lemmas.List.{get_or-set_other, get_or-set_same}

pub apart_tests : {m k : ℕ} → nat_eq m k ≡ false → m ≡ k → ⊥
apart_tests {m} {k} f e = (let t : nat_eq m k ≡ true = eq-eqb m k e in let no : true ≡ false = sym t ∙ f in cc)

module _ {X : Type 0} (none : X) (reads : X → ℕ → Bool) where
  -- ---- one part
  pub part_set : (i j : ℕ) (parts : List X) (x : X) (f : Bool → Bool → Bool) (r s : ℕ) (same : Bool) → j < length parts → ((b : Bool) → f false b ≡ b)
      → (i ≡ j → nat_eq r s ≡ same) → (i ≢ j → same ≡ false)
      → ((k : ℕ) → reads x k ≡ f (nat_eq k s) (reads (get_or parts j none) k)) → reads (get_or (set parts j x) i none) r ≡ f same (reads (get_or parts i none) r)
  part_set i j parts x f r s same inside other here there told = by (nat_eq i j) refl
    where
      by : (b : Bool) → nat_eq i j ≡ b → reads (get_or (set parts j x) i none) r ≡ f same (reads (get_or parts i none) r)
      by true is =
          (let one : i ≡ j = eqb-true i j is in
          ap (λ l. reads (get_or (set parts j x) l none) r) one ∙ ap (λ v. reads v r) (get_or-set_same parts j x none inside) ∙ told r
          ∙ ap (λ b. f b (reads (get_or parts j none) r)) (here one) ∙ ap (λ l. f same (reads (get_or parts l none) r)) (sym one))
      by false is =
          (let apart : i ≢ j = eqb-false i j is in
          ap (λ v. reads v r) (get_or-set_other parts j i x none apart) ∙ sym (other (reads (get_or parts i none) r)) ∙ ap (λ b. f b (reads (get_or parts i none) r)) (sym (there apart)))

  -- ---- all parts
  module _ (f : Bool → Bool → Bool) (old other : List X) where
    -- the parts before this one are put together, and the others as they were
    abbrev pub Mixed : ℕ → List X → Type 0
    Mixed at parts = (i k : ℕ) → reads (get_or parts i none) k ≡ cond (nat_lt i at) (f (reads (get_or old i none) k) (reads (get_or other i none) k)) (reads (get_or old i none) k)

    pub mixed_begin : Mixed 0 old
    mixed_begin i k = (let before : nat_lt i 0 ≡ false = search arith in ap (λ b. cond b (f (reads (get_or old i none) k) (reads (get_or other i none) k)) (reads (get_or old i none) k)) (sym before))

    pub mixed_more : (parts : List X) (at : ℕ) (x : X) → at < length parts → ((k : ℕ) → reads x k ≡ f (reads (get_or parts at none) k) (reads (get_or other at none) k)) → Mixed at parts → Mixed (at + 1) (set parts at x)
    mixed_more parts at x inside told mixed i k = by (nat_eq i at) refl
      where
        before : nat_lt at at ≡ false
        before = search arith

        by : (b : Bool) → nat_eq i at ≡ b → reads (get_or (set parts at x) i none) k ≡ cond (nat_lt i (at + 1)) (f (reads (get_or old i none) k) (reads (get_or other i none) k)) (reads (get_or old i none) k)
        by true is =
            (let same : i ≡ at = eqb-true i at is in
            let lower : nat_lt i (at + 1) ≡ true = search arith in
            let here : reads (get_or parts at none) k ≡ reads (get_or old at none) k = mixed at k ∙ ap (λ b. cond b (f (reads (get_or old at none) k) (reads (get_or other at none) k)) (reads (get_or old at none) k)) before in
            ap (λ j. reads (get_or (set parts at x) j none) k) same ∙ ap (λ v. reads v k) (get_or-set_same parts at x none inside) ∙ told k ∙ ap (λ b. f b (reads (get_or other at none) k)) here
            ∙ ap (λ j. f (reads (get_or old j none) k) (reads (get_or other j none) k)) (sym same)
            ∙ ap (λ b. cond b (f (reads (get_or old i none) k) (reads (get_or other i none) k)) (reads (get_or old i none) k)) (sym lower))
        by false is =
            (let apart : i ≢ at = eqb-false i at is in
            ap (λ v. reads v k) (get_or-set_other parts at i x none apart) ∙ mixed i k
            ∙ ap (λ b. cond b (f (reads (get_or old i none) k) (reads (get_or other i none) k)) (reads (get_or old i none) k)) (tests (nat_lt i at) (nat_lt i (at + 1)) refl refl apart))
          where
            tests : (a b : Bool) → nat_lt i at ≡ a → nat_lt i (at + 1) ≡ b → i ≢ at → a ≡ b
            tests true true x y n = refl
            tests false false x y n = refl
            tests true false x y n = absurd (omega (arith, ltb-true i at x, ltb-false i (at + 1) y))
            tests false true x y n = absurd (omega (arith, ltb-false i at x, ltb-true i (at + 1) y))

    pub mixed_end : (parts : List X) (at : ℕ) → ((i k : ℕ) → at ≤ i → f (reads (get_or old i none) k) (reads (get_or other i none) k) ≡ reads (get_or old i none) k) → Mixed at parts → (i k : ℕ) → reads (get_or parts i none) k ≡ f (reads (get_or old i none) k) (reads (get_or other i none) k)
    mixed_end parts at past mixed i k = mixed i k ∙ by (nat_lt i at) refl
      where
        by : (b : Bool) → nat_lt i at ≡ b → cond b (f (reads (get_or old i none) k) (reads (get_or other i none) k)) (reads (get_or old i none) k) ≡ f (reads (get_or old i none) k) (reads (get_or other i none) k)
        by true is = refl
        by false is = sym (past i k (omega (arith, ltb-false i at is)))
