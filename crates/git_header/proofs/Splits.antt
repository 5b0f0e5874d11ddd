-- A text splits at the first occurrence of a byte in one way only.
use Rattle.std.proofs.Common.{◌≡◌, ◌≢◌, ℕ, ◌<◌, ◌^◌, All, List, [], ◌∷◌, ◌++◌, get_or, refl, sym, ap, ◌∙◌, arith, rules}
use Rattle.std.specs.Fmt.{decimal}
use Rattle.std.specs.Str.Parse.{AllDigits, digits_value}
use Rattle.std.proofs.lemmas.Fmt.{digits_decimal}
use Rattle.std.proofs.lemmas.Str.Parse.{digit_at, IsNumeralModel, numerals_by_value}
use Rattle.std.proofs.lemmas.List.Elements.{All-head, All-tail, All-same, All-from_get_or}

pub heads : (x y : ℕ) (xs ys : List ℕ) → x ∷ xs ≡ y ∷ ys → x ≡ y
heads x y xs ys e = ap (λ l. get_or l 0 0) e

abbrev tail_of : List ℕ → List ℕ
tail_of [] = []
tail_of (x ∷ xs) = xs

pub tails : (x y : ℕ) (xs ys : List ℕ) → x ∷ xs ≡ y ∷ ys → xs ≡ ys
tails x y xs ys e = ap tail_of e

-- what precedes the first occurrence of the byte, and what follows it
pub split_unique : (byte : ℕ) (a b c d : List ℕ) → All (λ x. x ≢ byte) a → All (λ x. x ≢ byte) c → a ++ byte ∷ b ≡ c ++ byte ∷ d → (a ≡ c) × (b ≡ d)
split_unique byte [] b [] d p q e = (refl, tails byte byte b d e)
split_unique byte [] b (y ∷ c) d p q e = absurd (All-head (λ x. x ≢ byte) y c q (sym (heads byte y b (c ++ byte ∷ d) e)))
split_unique byte (x ∷ a) b [] d p q e = absurd (All-head (λ x. x ≢ byte) x a p (heads x byte (a ++ byte ∷ b) d e))
split_unique byte (x ∷ a) b (y ∷ c) d p q e =
    let rest = split_unique byte a b c d (All-tail (λ x. x ≢ byte) x a p) (All-tail (λ x. x ≢ byte) y c q) (tails x y (a ++ byte ∷ b) (c ++ byte ∷ d) e) in
    (ap (λ h. h ∷ a) (heads x y (a ++ byte ∷ b) (c ++ byte ∷ d) e) ∙ ap (λ t. y ∷ t) rest.0, rest.1)

-- bytes without it have no such split
pub split_none : (byte : ℕ) (a b t : List ℕ) → All (λ x. x ≢ byte) t → t ≡ a ++ byte ∷ b → ⊥
split_none byte [] b t p e = All-head (λ x. x ≢ byte) byte b (All-same (λ x. x ≢ byte) _ _ (sym e) p) refl
split_none byte (x ∷ a) b t p e = split_none byte a b (a ++ byte ∷ b) (All-tail (λ x. x ≢ byte) x (a ++ byte ∷ b) (All-same (λ x. x ≢ byte) _ _ (sym e) p)) refl

-- equal fronts leave equal rests
pub same_rest : (a b c : List ℕ) → a ++ b ≡ a ++ c → b ≡ c
same_rest [] b c e = e
same_rest (x ∷ a) b c e = same_rest a b c (tails x x (a ++ b) (a ++ c) e)

digits_test : IsNumeralModel (AllDigits 10) (digits_value 10)
digits_test = numerals_by_value _ (search rules)

-- a byte below the digits occurs in no number
pub decimal_without : (byte : ℕ) → byte < 48 → (n : ℕ) → n < 2 ^ 64 → All (λ x. x ≢ byte) (decimal n)
decimal_without byte low n small =
    All-from_get_or (λ x. x ≢ byte) (decimal n) 0 (λ i within is. let range = digit_at (decimal n) i (digits_decimal digits_test n small) within in absurd (omega arith))
