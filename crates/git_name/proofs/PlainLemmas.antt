-- The digits of a name, the word of a kind and a number contain no byte below the digits.
use Rattle.std.proofs.Common.{◌≡◌, ◌≢◌, ℕ, suc, ◌<◌, ◌≤◌, ◌/◌, ◌%◌, ◌^◌, All, List, [], ◌∷◌, get_or, arith, rules}
use Rattle.std.specs.Fmt.{decimal}
use Rattle.std.specs.List.{AllByRecursion}
use Rattle.std.specs.Str.Parse.{AllDigits, digits_value}
use Rattle.std.proofs.lemmas.Fmt.{digits_decimal}
use Rattle.std.proofs.lemmas.List.Elements.{All-from_get_or, All-from_recursion}
use Rattle.std.proofs.lemmas.Str.Parse.{digit_at, IsNumeralModel, numerals_by_value}
use Rattle.hex.specs.Hex.{IsBytes, encode_lower, encode_with, lower_digits}
use Rattle.git_name.specs.declared.kind.Kind.{Kind}
use Rattle.git_name.specs.declared.kind.Kind.TheVariants.{Blob, Tree, Commit, Tag}
use Rattle.git_name.specs.Kind.{type_word}

digits_high : All (λ b. 48 ≤ b) lower_digits
digits_high = All-from_recursion (λ b. 48 ≤ b) lower_digits (search (rules, arith))

high_digit : (k : ℕ) → k < 16 → 48 ≤ get_or lower_digits k 0
high_digit k small = digits_high k 0 small

hex_high : (bytes : List ℕ) → IsBytes bytes → AllByRecursion (λ b. 48 ≤ b) (encode_lower bytes)
unfolding encode_with
hex_high [] is = tt
hex_high (b ∷ bytes) is =
    let below : b < 256 = is 0 in
    (high_digit (b / 16) (omega arith), (high_digit (b % 16) (omega arith), hex_high bytes (λ i. is (suc i))))

high_not : (byte : ℕ) → byte < 48 → (text : List ℕ) → AllByRecursion (λ b. 48 ≤ b) text → AllByRecursion (λ b. b ≢ byte) text
high_not byte low [] high = tt
high_not byte low (b ∷ text) high = (λ (e : b ≡ byte). absurd (let h = high.0 in omega arith), high_not byte low text high.1)

-- the digits of bytes
pub encode_lower-plain : (byte : ℕ) → byte < 48 → (bytes : List ℕ) → IsBytes bytes → All (λ b. b ≢ byte) (encode_lower bytes)
encode_lower-plain byte low bytes are = All-from_recursion (λ b. b ≢ byte) (encode_lower bytes) (high_not byte low (encode_lower bytes) (hex_high bytes are))

-- the word of a kind
pub type_word-plain : (byte : ℕ) → byte < 48 → (kind : Kind) → All (λ b. b ≢ byte) (type_word kind)
type_word-plain byte low Blob = All-from_recursion (λ b. b ≢ byte) (type_word Blob) (search (rules, arith))
type_word-plain byte low Tree = All-from_recursion (λ b. b ≢ byte) (type_word Tree) (search (rules, arith))
type_word-plain byte low Commit = All-from_recursion (λ b. b ≢ byte) (type_word Commit) (search (rules, arith))
type_word-plain byte low Tag = All-from_recursion (λ b. b ≢ byte) (type_word Tag) (search (rules, arith))

digits_test : IsNumeralModel (AllDigits 10) (digits_value 10)
digits_test = numerals_by_value _ (search rules)

-- a number
pub decimal-plain : (byte : ℕ) → byte < 48 → (n : ℕ) → n < 2 ^ 64 → All (λ b. b ≢ byte) (decimal n)
decimal-plain byte low n small =
    All-from_get_or (λ b. b ≢ byte) (decimal n) 0 (λ i within is. let range = digit_at (decimal n) i (digits_decimal digits_test n small) within in absurd (omega arith))
