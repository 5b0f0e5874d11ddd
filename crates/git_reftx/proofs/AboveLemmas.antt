-- A name is above another if it and a `/` begin the other.
use Rattle.std.proofs.Common.{◌≡◌, ◌≢◌, ℕ, Bool, true, false, List, [], ◌∷◌, ◌++◌, refl, sym, ap, ◌∙◌, length, drop, append_assoc}
use Rattle.std.specs.List.{starts_with}
use Rattle.std.specs.Prelude.{nat_eq}
use Rattle.std.proofs.lemmas.Bool.Decides.{Decides-eqb}
use Rattle.std.proofs.lemmas.List.{drop_at}
use Rattle.std.proofs.lemmas.Slice.Eq.{starts_is}
use Rattle.git_reftx.specs.Transaction.{stands_above}
use Rattle.git_reftx.proofs.RefusalLemmas.{decided}

-- what follows the `/`
pub above_true : (upper lower : List ℕ) → stands_above upper lower ≡ true → (rest : List ℕ) × (lower ≡ upper ++ 47 ∷ rest)
above_true upper lower is =
    let front = upper ++ 47 ∷ [] in
    (drop (length front) lower, (starts_is Decides-eqb lower front (stands_above upper lower) refl).0 is ∙ append_assoc upper (47 ∷ []) (drop (length front) lower))

pub above_from : (upper lower rest : List ℕ) → lower ≡ upper ++ 47 ∷ rest → stands_above upper lower ≡ true
above_from upper lower rest is =
    (starts_is Decides-eqb lower (upper ++ 47 ∷ []) (stands_above upper lower) refl).1 rest (is ∙ sym (append_assoc upper (47 ∷ []) rest))

never : (b : Bool) → (b ≢ true) → false ≡ b
never true not_so = absurd (not_so refl)
never false not_so = refl

pub not_above : (upper lower : List ℕ) → ((rest : List ℕ) → lower ≢ upper ++ rest) → false ≡ stands_above upper lower
not_above upper lower apart = never (stands_above upper lower) (λ is. let parts = above_true upper lower is in apart (47 ∷ parts.0) parts.1)

-- a `/` begins what follows the upper name
pub above_rest : (upper lower rest : List ℕ) (slash : Bool) → lower ≡ upper ++ rest → slash ≡ starts_with nat_eq rest (47 ∷ []) → slash ≡ stands_above upper lower
above_rest upper lower rest slash is slash_is =
    let test = starts_is Decides-eqb rest (47 ∷ []) slash slash_is in
    decided slash (stands_above upper lower)
    (λ so. above_from upper lower (drop 1 rest) (is ∙ ap (λ r. upper ++ r) (test.0 so)))
    (λ so. let parts = above_true upper lower so in
    test.1 parts.0 (sym (drop_at upper rest (length upper) refl) ∙ ap (drop (length upper)) (sym is ∙ parts.1) ∙ drop_at upper (47 ∷ parts.0) (length upper) refl))
