-- The parts of a line are read in one way.
use Rattle.std.proofs.Common.{◌≡◌, ◌≢◌, ℕ, ◌<◌, ◌^◌, true, false, All, List, [], ◌∷◌, ◌++◌, codes, Option, option_map, unwrap_or, sym, ap, ◌∙◌, append_assoc, arith}
use Rattle.std.specs.Fmt.{decimal}
use Rattle.hex.specs.Hex.{encode_lower}
use Rattle.std.proofs.lemmas.List.Elements.{All-weaker}
use Rattle.git_name.specs.Name.{IsName, name_in}
use Rattle.git_name.specs.Number.{number_in}
use Rattle.git_name.specs.Text.{split_once}
use Rattle.git_name.proofs.PlainLemmas.{encode_lower-plain}
use Rattle.git_name.proofs.ReadingLemmas.{name_in-encode_lower, number_in-decimal}
use Rattle.git_name.proofs.TextLemmas.{split_once-append}
use Rattle.fork_request.specs.Names.{IsPlainName, stands_in_a_name}

-- a text splits in only one way at the first such byte
pub split_unique : (byte : ℕ) (a b c d : List ℕ) → All (λ x. x ≢ byte) a → All (λ x. x ≢ byte) c → a ++ byte ∷ b ≡ c ++ byte ∷ d → (a ≡ c) × (b ≡ d)
split_unique byte a b c d p q e =
    let split = sym (split_once-append byte a b p) ∙ (ap (split_once byte) e ∙ split_once-append byte c d q) in
    (ap (λ (o : Option (List ℕ × List ℕ)). unwrap_or (option_map (λ s. s.0) o) []) split, ap (λ (o : Option (List ℕ × List ℕ)). unwrap_or (option_map (λ s. s.1) o) []) split)

-- a plain name has only bytes of names
pub plain_without : (most byte : ℕ) (name : List ℕ) → stands_in_a_name byte ≡ false → IsPlainName most name → All (λ x. x ≢ byte) name
plain_without most byte name bare named =
    All-weaker (λ x. stands_in_a_name x ≡ true) (λ x. x ≢ byte) (λ x stands is. let both : true ≡ false = sym stands ∙ (ap stands_in_a_name is ∙ bare) in absurd (cc both)) name named.bytes

-- two splits into a word, SP and the rest are the same
pub same_parts : (rest word behind name more : List ℕ) → rest ≡ word ++ 32 ∷ behind → All (λ x. x ≢ 32) word → All (λ x. x ≢ 32) name → rest ≡ name ++ codes " " ++ more → (word ≡ name) × (behind ≡ more)
same_parts rest word behind name more is plain other spelled =
    split_unique 32 word behind name more plain other (sym is ∙ spelled ∙ append_assoc name (codes " ") more)

pub decimal_unique : (n m : ℕ) → n < 2 ^ 64 → m < 2 ^ 64 → decimal n ≡ decimal m → n ≡ m
decimal_unique n m small other is =
    ap (λ (o : Option ℕ). unwrap_or o 0) (sym (number_in-decimal n small) ∙ (ap number_in is ∙ number_in-decimal m other))

pub digits_unique : (a b : List ℕ) → IsName a → IsName b → encode_lower a ≡ encode_lower b → a ≡ b
digits_unique a b named other is =
    ap (λ (o : Option (List ℕ)). unwrap_or o []) (sym (name_in-encode_lower a named) ∙ (ap name_in is ∙ name_in-encode_lower b other))

pub digits_without : (name : List ℕ) → IsName name → All (λ x. x ≢ 32) (encode_lower name)
digits_without name named = encode_lower-plain 32 (omega arith) name named.bytes

-- the word, a SP and the rest, as the codes of texts have them
pub parted : (rest word behind : List ℕ) → rest ≡ word ++ 32 ∷ behind → rest ≡ word ++ codes " " ++ behind
parted rest word behind is = is ∙ sym (append_assoc word (codes " ") behind)

-- a reference's line is read in one way
pub reference_parts : (rest digits full target prefix name : List ℕ) → rest ≡ digits ++ 32 ∷ full → All (λ x. x ≢ 32) digits → IsName target → rest ≡ encode_lower target ++ codes " " ++ prefix ++ name → (digits ≡ encode_lower target) × (full ≡ prefix ++ name)
reference_parts rest digits full target prefix name is plain named spelled =
    same_parts rest digits full (encode_lower target) (prefix ++ name) is plain (digits_without target named) (spelled ∙ append_assoc (encode_lower target ++ codes " ") prefix name)

pub reference_spelled : (rest digits full target prefix name : List ℕ) → rest ≡ digits ++ 32 ∷ full → digits ≡ encode_lower target → full ≡ prefix ++ name → rest ≡ encode_lower target ++ codes " " ++ prefix ++ name
reference_spelled rest digits full target prefix name is digits_are full_is =
    is ∙ (λ i. digits_are i ++ 32 ∷ full_is i) ∙ sym (append_assoc (encode_lower target) (codes " ") (prefix ++ name)) ∙ sym (append_assoc (encode_lower target ++ codes " ") prefix name)
