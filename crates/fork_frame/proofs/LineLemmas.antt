-- A frame's line is read in one way only: what precedes its first SP, and a number in decimal.
use Rattle.std.proofs.Common.{◌≡◌, ◌≢◌, ℕ, ◌<◌, ◌≤◌, ◌^◌, ◌+◌, true, false, All, List, [], ◌∷◌, ◌++◌, codes, length, slice_index, Option, option_map, unwrap_or, refl, sym, ap, ◌∙◌, arith, rules}
use Rattle.std.specs.Fmt.{decimal}
use Rattle.std.specs.Str.Parse.{AllDigits, digits_value}
use Rattle.std.proofs.lemmas.Fmt.{digits_decimal, length-decimal-le}
use Rattle.std.proofs.lemmas.Str.Parse.{digit_at, IsNumeralModel, numerals_by_value}
use Rattle.std.proofs.lemmas.List.{length-append}
use Rattle.std.proofs.lemmas.List.Elements.{All-from_recursion, All-head, All-tail, All-cons, All-append, All-same, All-weaker, All-from_get_or}
use Rattle.git_name.specs.Number.{number_in}
use Rattle.git_name.specs.Text.{split_once}
use Rattle.git_name.proofs.ReadingLemmas.{number_in-decimal}
use Rattle.git_name.proofs.TextLemmas.{split_once-append}
use Rattle.fork_request.specs.Names.{IsTenantName, starts_a_name, stands_in_a_name}
use Rattle.fork_frame.specs.declared.asker.Asker.{Asker}
use Rattle.fork_frame.specs.declared.asker.Asker.TheVariants.{Tenant, Host}
use Rattle.fork_frame.specs.declared.line.Line.{Line}
use Rattle.fork_frame.specs.Asker.{IsAsker, asker_word}
use Rattle.fork_frame.specs.Line.{IsFrameLine}

heads : (x y : ℕ) (xs ys : List ℕ) → x ∷ xs ≡ y ∷ ys → x ≡ y
heads x y xs ys e = cc

tails : (x y : ℕ) (xs ys : List ℕ) → x ∷ xs ≡ y ∷ ys → xs ≡ ys
tails x y xs ys e = cc

-- what precedes the first occurrence of the byte, and what follows it
pub split_unique : (byte : ℕ) (a b c d : List ℕ) → All (λ x. x ≢ byte) a → All (λ x. x ≢ byte) c → a ++ byte ∷ b ≡ c ++ byte ∷ d → (a ≡ c) × (b ≡ d)
split_unique byte a b c d p q e =
    let split = sym (split_once-append byte a b p) ∙ (ap (split_once byte) e ∙ split_once-append byte c d q) in
    (ap (λ (o : Option (List ℕ × List ℕ)). unwrap_or (option_map (λ s. s.0) o) []) split, ap (λ (o : Option (List ℕ × List ℕ)). unwrap_or (option_map (λ s. s.1) o) []) split)

-- bytes without it have no such split
pub split_none : (byte : ℕ) (a b t : List ℕ) → All (λ x. x ≢ byte) t → t ≡ a ++ byte ∷ b → ⊥
split_none byte [] b t p e = All-head (λ x. x ≢ byte) byte b (All-same (λ x. x ≢ byte) _ _ (sym e) p) refl
split_none byte (x ∷ a) b t p e = split_none byte a b (a ++ byte ∷ b) (All-tail (λ x. x ≢ byte) x (a ++ byte ∷ b) (All-same (λ x. x ≢ byte) _ _ (sym e) p)) refl

-- bytes without it that go before others end before the first such byte
pub split_later : (byte : ℕ) (a b t rest : List ℕ) → All (λ x. x ≢ byte) t → t ++ rest ≡ a ++ byte ∷ b → length t ≤ length a
split_later byte a b [] rest p e = omega arith
split_later byte [] b (x ∷ t) rest p e = absurd (All-head (λ x. x ≢ byte) x t p (heads x byte (t ++ rest) b e))
split_later byte (y ∷ a) b (x ∷ t) rest p e =
    let less : length t ≤ length a = split_later byte a b t rest (All-tail (λ x. x ≢ byte) x t p) (tails x y (t ++ rest) (a ++ byte ∷ b) e) in
    omega arith

name_without : (byte : ℕ) → stands_in_a_name byte ≡ false → (name : List ℕ) → IsTenantName name → All (λ x. x ≢ byte) name
name_without byte bare name named =
    All-weaker (λ x. stands_in_a_name x ≡ true) (λ x. x ≢ byte) (λ x stands is. let both : true ≡ false = sym stands ∙ (ap stands_in_a_name is ∙ bare) in absurd (cc both)) name named.bytes

host_without : (byte : ℕ) → byte < 64 → All (λ x. x ≢ byte) (codes "@host")
host_without byte low =
    All-from_recursion (λ x. x ≢ byte) (codes "@host") (λ (e : 64 ≡ byte). absurd (omega arith), (λ (e : 104 ≡ byte). absurd (omega arith), (λ (e : 111 ≡ byte). absurd (omega arith), (λ (e : 115 ≡ byte). absurd (omega arith), (λ (e : 116 ≡ byte). absurd (omega arith), tt)))))

pub asker_without : (byte : ℕ) → byte < 64 → stands_in_a_name byte ≡ false → (asker : Asker) → IsAsker asker → All (λ x. x ≢ byte) (asker_word asker)
asker_without byte low bare (Tenant name) named = name_without byte bare name named
asker_without byte low bare Host named = host_without byte low

asker_short : (asker : Asker) → IsAsker asker → length (asker_word asker) ≤ 32
asker_short (Tenant name) named = named.few
asker_short Host named = omega arith

-- no tenant has the name of the host's side
not_host : (name : List ℕ) → IsTenantName name → name ≡ codes "@host" → ⊥
not_host name named is =
    let bad : true ≡ false = sym named.starts ∙ ap (λ (n : List ℕ). starts_a_name (slice_index n 0)) is in
    cc

pub asker_unique : (a b : Asker) → IsAsker a → IsAsker b → asker_word a ≡ asker_word b → a ≡ b
asker_unique (Tenant name) (Tenant other) p q e = ap (λ (n : List ℕ). Asker.Tenant n) e
asker_unique (Tenant name) Host p q e = absurd (not_host name p e)
asker_unique Host (Tenant other) p q e = absurd (not_host other q (sym e))
asker_unique Host Host p q e = refl

digits_test : IsNumeralModel (AllDigits 10) (digits_value 10)
digits_test = numerals_by_value _ (search rules)

pub decimal_without : (byte : ℕ) → byte < 48 → (n : ℕ) → n < 2 ^ 64 → All (λ x. x ≢ byte) (decimal n)
decimal_without byte low n small =
    All-from_get_or (λ x. x ≢ byte) (decimal n) 0 (λ i within is. let range = digit_at (decimal n) i (digits_decimal digits_test n small) within in absurd (omega arith))

pub decimal_unique : (n m : ℕ) → n < 2 ^ 64 → m < 2 ^ 64 → decimal n ≡ decimal m → n ≡ m
decimal_unique n m small other is =
    ap (λ (o : Option ℕ). unwrap_or o 0) (sym (number_in-decimal n small) ∙ (ap number_in is ∙ number_in-decimal m other))

-- a valid line's parts are the two sides of its first SP
pub parts_of : (text word digits : List ℕ) (line : Line) → text ≡ word ++ 32 ∷ digits → All (λ x. x ≢ 32) word → IsFrameLine line text → (word ≡ asker_word line.asker) × (digits ≡ decimal line.len)
parts_of text word digits line sides plain right =
    split_unique 32 word digits (asker_word line.asker) (decimal line.len) plain (asker_without 32 (omega arith) refl line.asker right.named) (sym sides ∙ right.spelled)

-- a text is at most one line
pub line_unique : (text : List ℕ) (l m : Line) → IsFrameLine l text → IsFrameLine m text → l ≡ m
line_unique text l m one two =
    let small_l : l.len < 2 ^ 64 = (let f = one.fits in omega arith) in
    let small_m : m.len < 2 ^ 64 = (let f = two.fits in omega arith) in
    let parts = parts_of text (asker_word l.asker) (decimal l.len) m one.spelled (asker_without 32 (omega arith) refl l.asker one.named) two in
    let asker : l.asker ≡ m.asker = asker_unique l.asker m.asker one.named two.named parts.0 in
    let len : l.len ≡ m.len = decimal_unique l.len m.len small_l small_m parts.1 in
    λ i. record { asker = asker i; len = len i }

-- a valid line has no LF
pub line_plain : (line : Line) (text : List ℕ) → IsFrameLine line text → All (λ x. x ≢ 10) text
line_plain line text right =
    let small : line.len < 2 ^ 64 = (let f = right.fits in omega arith) in
    All-same (λ x. x ≢ 10) _ _ right.spelled (All-append (λ x. x ≢ 10) (asker_word line.asker) (32 ∷ decimal line.len) (asker_without 10 (omega arith) refl line.asker right.named) (All-cons (λ x. x ≢ 10) 32 (decimal line.len) (λ (e : 32 ≡ 10). absurd (omega arith)) (decimal_without 10 (omega arith) line.len small)))

-- and at most 40 bytes
pub line_short : (line : Line) (text : List ℕ) → IsFrameLine line text → length text ≤ 40
line_short line text right =
    let f = right.fits in
    let few : length (asker_word line.asker) ≤ 32 = asker_short line.asker right.named in
    let digits : length (decimal line.len) ≤ 7 = length-decimal-le 7 line.len (omega arith) (omega arith) (omega arith) in
    let whole : length text ≡ length (asker_word line.asker) + length (32 ∷ decimal line.len) = ap (λ (l : List ℕ). length l) right.spelled ∙ length-append (asker_word line.asker) (32 ∷ decimal line.len) in
    omega arith
