-- Lower case digits, two for each byte.
use Rattle.std.proofs.Common.{◌≡◌, ◌≢◌, ℕ, zero, suc, ◌+◌, ◌-◌, ◌*◌, ◌/◌, ◌%◌, ◌<◌, ◌≤◌, ◌⊎◌, Bool, true, false, cond, eqb, ◌&&◌, nat_lt, List, [], ◌∷◌, ◌++◌, refl, sym, ap, ap₂, ◌∙◌, length, take, slice_index, slice_set, append_assoc, inl, inr, arith}
use Rattle.std.proofs.lemmas.Bool.Decides.{nat_tests}
use Rattle.std.proofs.lemmas.List.{take_more, take_more_set, take_all}
use Rattle.hex.specs.Hex.{encode_lower, encode_with, lower_digits}
use Rattle.git_name.specs.Name.{IsName}

-- the digit of each value
abbrev digit_of : ℕ → ℕ
digit_of n = cond (nat_lt n 10) (48 + n) (87 + n)

-- whether the digits of the first values are these
abbrev tested : ℕ → Bool
tested zero = true
tested (suc n) = eqb (slice_index lower_digits n) (digit_of n) && tested n

both : (a b : Bool) → a && b ≡ true → (a ≡ true) × (b ≡ true)
both true true is = (refl, refl)
both true false is = absurd (cc)
both false b is = absurd (cc)

tested_at : (n k : ℕ) → tested n ≡ true → k < n → slice_index lower_digits k ≡ digit_of k
tested_at zero k is less = absurd (omega arith)
tested_at (suc n) k is less = by_place (eqb k n) refl (tested_at n k (both (eqb (slice_index lower_digits n) (digit_of n)) (tested n) is).1)
  where
    by_place : (t : Bool) → eqb k n ≡ t → (k < n → slice_index lower_digits k ≡ digit_of k) → slice_index lower_digits k ≡ digit_of k
    by_place true same below =
        let last : k ≡ n = grind (arith, nat_tests) in
        let first = (both (eqb (slice_index lower_digits n) (digit_of n)) (tested n) is).0 in
        let found : slice_index lower_digits n ≡ digit_of n = grind (arith, nat_tests) in
        ap (λ i. slice_index lower_digits i) last ∙ found ∙ ap digit_of (sym last)
    by_place false same below = below (grind (arith, nat_tests))

digits_are : (k : ℕ) → k < 16 → slice_index lower_digits k ≡ digit_of k
digits_are k less = tested_at 16 k refl less

low_digit : (n : ℕ) → n < 10 → digit_of n ≡ 48 + n
low_digit n less = grind (arith, nat_tests)

high_digit : (n : ℕ) → 10 ≤ n → digit_of n ≡ 87 + n
high_digit n more = grind (arith, nat_tests)

-- a byte from `0` to `9`
pub is_low : (byte : ℕ) → 48 ≤ byte → byte ≤ 57 → byte ≡ slice_index lower_digits (byte - 48)
is_low byte low high = sym (digits_are (byte - 48) (omega arith) ∙ low_digit (byte - 48) (omega arith) ∙ (omega arith))

-- a byte from `a` to `f`
pub is_high : (byte : ℕ) → 97 ≤ byte → byte ≤ 102 → byte ≡ slice_index lower_digits (byte - 97 + 10)
is_high byte low high = sym (digits_are (byte - 97 + 10) (omega arith) ∙ high_digit (byte - 97 + 10) (omega arith) ∙ (omega arith))

-- any other byte
pub is_none : (byte : ℕ) → (48 ≤ byte → byte ≤ 57 → ⊥) → (97 ≤ byte → byte ≤ 102 → ⊥) → (k : ℕ) → k < 16 → byte ≢ slice_index lower_digits k
is_none byte not_low not_high k less is = by_place (nat_lt k 10) refl
  where
    by_place : (t : Bool) → nat_lt k 10 ≡ t → ⊥
    by_place true lower =
        let small : k < 10 = grind (arith, nat_tests) in
        let place : byte ≡ 48 + k = is ∙ digits_are k less ∙ low_digit k small in
        not_low (omega arith) (omega arith)
    by_place false lower =
        let large : 10 ≤ k = grind (arith, nat_tests) in
        let place : byte ≡ 87 + k = is ∙ digits_are k less ∙ high_digit k large in
        not_high (omega arith) (omega arith)

-- the digits of joined bytes are the joined digits
encode-append : (xs ys : List ℕ) → encode_lower (xs ++ ys) ≡ encode_lower xs ++ encode_lower ys
unfolding encode_with
encode-append [] ys = refl
encode-append (x ∷ xs) ys = ap (λ (l : List ℕ). slice_index lower_digits (x / 16) ∷ slice_index lower_digits (x % 16) ∷ l) (encode-append xs ys)

one_byte : (b : ℕ) → encode_lower (b ∷ []) ≡ slice_index lower_digits (b / 16) ∷ slice_index lower_digits (b % 16) ∷ []
unfolding encode_with
one_byte b = refl

-- two more bytes of a text
two_more : (text : List ℕ) (at : ℕ) → 2 * at + 1 < length text → take (2 * (at + 1)) text ≡ take (2 * at) text ++ (slice_index text (2 * at) ∷ slice_index text (2 * at + 1) ∷ [])
two_more text at fits =
    let two : 2 * (at + 1) ≡ 2 * at + 1 + 1 = omega arith in
    ap (λ n. take n text) two ∙ take_more text (2 * at + 1) 0 fits ∙ ap (λ (l : List ℕ). l ++ slice_index text (2 * at + 1) ∷ []) (take_more text (2 * at) 0 (omega arith))
    ∙ append_assoc (take (2 * at) text) (slice_index text (2 * at) ∷ []) (slice_index text (2 * at + 1) ∷ [])

-- two more digits are read
pub pair_more : (text bytes : List ℕ) (at b : ℕ) → at < length bytes → 2 * at + 1 < length text → slice_index text (2 * at) ≡ slice_index lower_digits (b / 16) → slice_index text (2 * at + 1) ≡ slice_index lower_digits (b % 16)
    → encode_lower (take at bytes) ≡ take (2 * at) text → encode_lower (take (at + 1) (slice_set bytes at b)) ≡ take (2 * (at + 1)) text
pair_more text bytes at b room fits high low so_far =
    ap encode_lower (take_more_set bytes at b room) ∙ encode-append (take at bytes) (b ∷ [])
    ∙ ap₂ (λ (f l : List ℕ). f ++ l) so_far (one_byte b ∙ ap₂ (λ x y. x ∷ y ∷ []) (sym high) (sym low)) ∙ sym (two_more text at fits)

-- the digits of the byte at each place
digits_at : (bytes : List ℕ) (at : ℕ) → at < length bytes
    → (slice_index (encode_lower bytes) (2 * at) ≡ slice_index lower_digits (slice_index bytes at / 16)) × (slice_index (encode_lower bytes) (2 * at + 1) ≡ slice_index lower_digits (slice_index bytes at % 16))
unfolding encode_with
digits_at [] at fits = absurd (omega arith)
digits_at (b ∷ bytes) zero fits = (refl, refl)
digits_at (b ∷ bytes) (suc at) fits =
    let two : 2 * suc at ≡ suc (suc (2 * at)) = omega arith in
    let three : 2 * suc at + 1 ≡ suc (suc (2 * at + 1)) = omega arith in
    let rest = digits_at bytes at (omega arith) in
    (ap (λ n. slice_index (encode_lower (b ∷ bytes)) n) two ∙ rest.0, ap (λ n. slice_index (encode_lower (b ∷ bytes)) n) three ∙ rest.1)

-- a byte that is no digit is in the digits of no name
pub no_digits : (text : List ℕ) (at place byte : ℕ) → at < 32 → (place ≡ 2 * at) ⊎ (place ≡ 2 * at + 1) → byte ≡ slice_index text place → ((k : ℕ) → k < 16 → byte ≢ slice_index lower_digits k)
    → (name : List ℕ) → IsName name → text ≢ encode_lower name
no_digits text at place byte less which is none name is_name spelled =
    let long : length name ≡ 32 = is_name.length in
    let digits = digits_at name at (omega arith) in
    let small : slice_index name at < 256 = is_name.bytes at in
    elim which [
      | inl first ↦ none (slice_index name at / 16) (omega arith) (is ∙ ap (λ n. slice_index text n) first ∙ ap (λ (t : List ℕ). slice_index t (2 * at)) spelled ∙ digits.0)
      | inr second ↦ none (slice_index name at % 16) (omega arith) (is ∙ ap (λ n. slice_index text n) second ∙ ap (λ (t : List ℕ). slice_index t (2 * at + 1)) spelled ∙ digits.1)
    ]

-- all digits are read
pub all_read : (text bytes : List ℕ) (at : ℕ) → 32 ≤ at → length bytes ≡ 32 → length text ≡ 64 → encode_lower (take at bytes) ≡ take (2 * at) text → text ≡ encode_lower bytes
all_read text bytes at done room fits so_far =
    sym (ap encode_lower (sym (take_all at bytes (omega arith))) ∙ so_far ∙ take_all (2 * at) text (omega arith))

-- nothing is read yet
pub none_read : (text bytes : List ℕ) → encode_lower (take 0 bytes) ≡ take 0 text
unfolding encode_with
none_read text bytes = refl

three : (a b c : Bool) → a && b && c ≡ true → (a ≡ true) × (b ≡ true) × (c ≡ true)
three a b c is = (let first = both (a && b) c is in let second = both a b first.0 in (second.0, second.1, first.1))

below_16 : (n : ℕ) → nat_lt n 16 ≡ true → n < 16
below_16 n is = grind (arith, nat_tests)

from_16 : (n : ℕ) → nat_lt n 16 ≡ false → 16 ≤ n
from_16 n is = grind (arith, nat_tests)

-- two valid digits after valid ones
pub pair_right : (text bytes : List ℕ) (at high low : ℕ) (right : Bool) → at < 32 → length bytes ≡ 32 → length text ≡ 64 → (right ≡ true → encode_lower (take at bytes) ≡ take (2 * at) text)
    → (high < 16 → slice_index text (2 * at) ≡ slice_index lower_digits high) → (low < 16 → slice_index text (2 * at + 1) ≡ slice_index lower_digits low)
    → right && nat_lt high 16 && nat_lt low 16 ≡ true → encode_lower (take (at + 1) (slice_set bytes at (high % 16 * 16 + low % 16))) ≡ take (2 * (at + 1)) text
pair_right text bytes at high low right less room fits so_far first second all =
    let parts = three right (nat_lt high 16) (nat_lt low 16) all in
    let upper : high < 16 = below_16 high parts.1 in
    let lower : low < 16 = below_16 low parts.2 in
    let top : high ≡ (high % 16 * 16 + low % 16) / 16 = omega arith in
    let bottom : low ≡ (high % 16 * 16 + low % 16) % 16 = omega arith in
    pair_more text bytes at (high % 16 * 16 + low % 16) (omega arith) (omega arith)
    (first upper ∙ ap (λ n. slice_index lower_digits n) top) (second lower ∙ ap (λ n. slice_index lower_digits n) bottom) (so_far parts.0)

-- a wrong digit, or a digit after a wrong one
pub pair_wrong : (text : List ℕ) (at high low : ℕ) (right : Bool) → at < 32 → (right ≡ false → (name : List ℕ) → IsName name → text ≢ encode_lower name)
    → (16 ≤ high → (k : ℕ) → k < 16 → slice_index text (2 * at) ≢ slice_index lower_digits k) → (16 ≤ low → (k : ℕ) → k < 16 → slice_index text (2 * at + 1) ≢ slice_index lower_digits k)
    → right && nat_lt high 16 && nat_lt low 16 ≡ false → (name : List ℕ) → IsName name → text ≢ encode_lower name
pair_wrong text at high low right less so_far first second wrong = by_parts right (nat_lt high 16) (nat_lt low 16) refl refl refl wrong
  where
    by_parts : (a b c : Bool) → right ≡ a → nat_lt high 16 ≡ b → nat_lt low 16 ≡ c → a && b && c ≡ false → (name : List ℕ) → IsName name → text ≢ encode_lower name
    by_parts false b c before upper lower is = so_far before
    by_parts true false c before upper lower is = no_digits text at (2 * at) (slice_index text (2 * at)) less (inl refl) refl (first (from_16 high upper))
    by_parts true true false before upper lower is = no_digits text at (2 * at + 1) (slice_index text (2 * at + 1)) less (inr refl) refl (second (from_16 low lower))
    by_parts true true true before upper lower is = absurd (cc)
