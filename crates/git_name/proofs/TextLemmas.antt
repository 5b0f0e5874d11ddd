-- A text is split in one way only, and its words are what is between its spaces.
use Rattle.std.proofs.Common.{◌≡◌, ◌≢◌, ℕ, ◌<◌, ◌≤◌, length, take, get_or, length-take, Bool, true, false, cond, eqb, All, List, [], ◌∷◌, ◌++◌, Option, Some, None, refl, sym, ap, arith, ◌∙◌, option_map, unwrap_or}
use Rattle.std.proofs.lemmas.Bool.Decides.{nat_tests}
use Rattle.std.proofs.lemmas.List.{get_or-take}
use Rattle.std.proofs.lemmas.List.Elements.{All-cons, All-from_get_or, All-head, All-nil, All-same, All-tail}
use Rattle.memchr.specs.Find.{Nowhere, Passes, is_byte}
use Rattle.git_name.specs.Text.{split_once, onto_first, words_of}

differs : (b byte : ℕ) → b ≢ byte → eqb b byte ≡ false
differs b byte apart = grind (arith, nat_tests)

same : (byte : ℕ) → eqb byte byte ≡ true
same byte = grind (arith, nat_tests)

-- a text with the byte, after bytes without it
pub split_once-append : (byte : ℕ) (a b : List ℕ) → All (λ x. x ≢ byte) a → split_once byte (a ++ byte ∷ b) ≡ Some (a, b)
split_once-append byte [] b plain = ap (λ (c : Bool). cond c (Some ([], b)) (option_map (λ p. (byte ∷ p.0, p.1)) (split_once byte b))) (same byte)
split_once-append byte (x ∷ a) b plain =
    ap (λ (c : Bool). cond c (Some ([], a ++ byte ∷ b)) (option_map (λ p. (x ∷ p.0, p.1)) (split_once byte (a ++ byte ∷ b)))) (differs x byte (All-head (λ y. y ≢ byte) x a plain))
    ∙ ap (option_map (λ p. (x ∷ p.0, p.1))) (split_once-append byte a b (All-tail (λ y. y ≢ byte) x a plain))

-- a text without the byte
pub split_once-none : (byte : ℕ) (a : List ℕ) → All (λ x. x ≢ byte) a → split_once byte a ≡ None
split_once-none byte [] plain = refl
split_once-none byte (x ∷ a) plain =
    ap (λ (c : Bool). cond c (Some ([], a)) (option_map (λ p. (x ∷ p.0, p.1)) (split_once byte a))) (differs x byte (All-head (λ y. y ≢ byte) x a plain))
    ∙ ap (option_map (λ p. (x ∷ p.0, p.1))) (split_once-none byte a (All-tail (λ y. y ≢ byte) x a plain))

-- the first word and the others
pub words_of-append : (a b : List ℕ) → All (λ x. x ≢ 32) a → words_of (a ++ 32 ∷ b) ≡ a ∷ words_of b
words_of-append [] b plain = refl
words_of-append (x ∷ a) b plain =
    ap (λ (c : Bool). cond c ([] ∷ words_of (a ++ 32 ∷ b)) (onto_first x (words_of (a ++ 32 ∷ b)))) (differs x 32 (All-head (λ y. y ≢ 32) x a plain))
    ∙ ap (onto_first x) (words_of-append a b (All-tail (λ y. y ≢ 32) x a plain))

-- one word alone
pub words_of-plain : (a : List ℕ) → All (λ x. x ≢ 32) a → words_of a ≡ a ∷ []
words_of-plain [] plain = refl
words_of-plain (x ∷ a) plain =
    ap (λ (c : Bool). cond c ([] ∷ words_of a) (onto_first x (words_of a))) (differs x 32 (All-head (λ y. y ≢ 32) x a plain))
    ∙ ap (onto_first x) (words_of-plain a (All-tail (λ y. y ≢ 32) x a plain))

-- the byte does not occur before its first place
pub front_plain : (byte end : ℕ) (t : List ℕ) → Nowhere (Passes (is_byte byte) t) 0 end → end ≤ length t → All (λ b. b ≢ byte) (take end t)
front_plain byte end t nowhere fits =
    All-from_get_or (λ b. b ≢ byte) (take end t) 0 (λ i within is.
    let short : i < end = (let long = length-take end t in omega arith) in
    nowhere i (omega arith) short (found i (sym (get_or-take end t i 0 short) ∙ is)))
  where
    found : (i : ℕ) → get_or t i 0 ≡ byte → eqb (get_or t i 0) byte ≡ true
    found i is = ap (λ b. eqb b byte) is ∙ same byte

-- a text without such a place lacks the byte
pub all_plain : (byte : ℕ) (t : List ℕ) → Nowhere (Passes (is_byte byte) t) 0 (length t) → All (λ b. b ≢ byte) t
all_plain byte t nowhere =
    All-from_get_or (λ b. b ≢ byte) t 0 (λ i within is. nowhere i (omega arith) within (ap (λ b. eqb b byte) is ∙ same byte))

-- a line has a first word
pub first_of_words : (line : List ℕ) → (word : List ℕ) × (others : List (List ℕ)) × (words_of line ≡ word ∷ others)
first_of_words [] = ([], [], refl)
first_of_words (b ∷ line) = by_byte (eqb b 32) (words_of line)
  where
    by_words : (words : List (List ℕ)) → (word : List ℕ) × (others : List (List ℕ)) × (onto_first b words ≡ word ∷ others)
    by_words [] = (b ∷ [], [], refl)
    by_words (word ∷ words) = (b ∷ word, words, refl)

    by_byte : (c : Bool) (words : List (List ℕ)) → (word : List ℕ) × (others : List (List ℕ)) × (cond c ([] ∷ words) (onto_first b words) ≡ word ∷ others)
    by_byte true words = ([], words, refl)
    by_byte false words = by_words words

behind_first : (byte b : ℕ) (xs a c : List ℕ) (t : Bool) (o : Option (List ℕ × List ℕ)) → (t ≡ true → b ≡ byte) → ((d e : List ℕ) → o ≡ Some (d, e) → xs ≡ d ++ byte ∷ e) → cond {A = Option (List ℕ × List ℕ)} t (Some ([], xs)) (option_map (λ p. (b ∷ p.0, p.1)) o) ≡ Some (a, c) → b ∷ xs ≡ a ++ byte ∷ c
behind_first byte b xs a c true o same rest is =
    let first : [] ≡ a = ap (λ (r : Option (List ℕ × List ℕ)). unwrap_or (option_map (λ p. p.0) r) []) is in
    let second : xs ≡ c = ap (λ (r : Option (List ℕ × List ℕ)). unwrap_or (option_map (λ p. p.1) r) []) is in
    rw (← first, ← second) (ap (λ y. y ∷ xs) (same refl))
behind_first byte b xs a c false None same rest is = absurd (cc)
behind_first byte b xs a c false (Some p) same rest is =
    let first : b ∷ p.0 ≡ a = ap (λ (r : Option (List ℕ × List ℕ)). unwrap_or (option_map (λ q. q.0) r) []) is in
    let second : p.1 ≡ c = ap (λ (r : Option (List ℕ × List ℕ)). unwrap_or (option_map (λ q. q.1) r) []) is in
    rw (← first, ← second) (ap (λ ys. b ∷ ys) (rest p.0 p.1 refl))

-- the two parts and the byte between them are the text
pub split_once-whole : (byte : ℕ) (text a c : List ℕ) → split_once byte text ≡ Some (a, c) → text ≡ a ++ byte ∷ c
split_once-whole byte [] a c is = absurd (cc)
split_once-whole byte (b ∷ xs) a c is =
    behind_first byte b xs a c (eqb b byte) (split_once byte xs) (λ t. grind (arith, nat_tests)) (λ d e. split_once-whole byte xs d e) is

plain_first : (byte b : ℕ) (xs a c : List ℕ) (t : Bool) (o : Option (List ℕ × List ℕ)) → (t ≡ false → b ≢ byte) → ((d e : List ℕ) → o ≡ Some (d, e) → All (λ x. x ≢ byte) d)
    → cond {A = Option (List ℕ × List ℕ)} t (Some ([], xs)) (option_map (λ p. (b ∷ p.0, p.1)) o) ≡ Some (a, c) → All (λ x. x ≢ byte) a
plain_first byte b xs a c true o apart rest is =
    let first : [] ≡ a = ap (λ (r : Option (List ℕ × List ℕ)). unwrap_or (option_map (λ p. p.0) r) []) is in
    All-same (λ x. x ≢ byte) _ _ (sym first) (All-nil (λ x. x ≢ byte))
plain_first byte b xs a c false None apart rest is = absurd (cc)
plain_first byte b xs a c false (Some p) apart rest is =
    let first : b ∷ p.0 ≡ a = ap (λ (r : Option (List ℕ × List ℕ)). unwrap_or (option_map (λ q. q.0) r) []) is in
    All-same (λ x. x ≢ byte) _ _ (sym first) (All-cons (λ x. x ≢ byte) b p.0 (apart refl) (rest p.0 p.1 refl))

-- the byte does not occur in the first part
pub split_once-plain : (byte : ℕ) (text a c : List ℕ) → split_once byte text ≡ Some (a, c) → All (λ x. x ≢ byte) a
split_once-plain byte [] a c is = absurd (cc)
split_once-plain byte (b ∷ xs) a c is =
    plain_first byte b xs a c (eqb b byte) (split_once byte xs) (λ t. grind (arith, nat_tests)) (λ d e. split_once-plain byte xs d e) is

-- words with one SP between each two
abbrev pub spaced : List (List ℕ) → List ℕ
spaced [] = []
spaced (word ∷ []) = word
spaced (word ∷ other ∷ words) = word ++ 32 ∷ spaced (other ∷ words)

spaced-onto : (b : ℕ) (word : List ℕ) (words : List (List ℕ)) → spaced ((b ∷ word) ∷ words) ≡ b ∷ spaced (word ∷ words)
spaced-onto b word [] = refl
spaced-onto b word (other ∷ words) = refl

-- the words of a line make the line
pub spaced-words_of : (line : List ℕ) → spaced (words_of line) ≡ line
spaced-words_of [] = refl
spaced-words_of (b ∷ line) = by_byte (eqb b 32) refl (first_of_words line) (spaced-words_of line)
  where
    by_byte : (t : Bool) → eqb b 32 ≡ t → (word : List ℕ) × (others : List (List ℕ)) × (words_of line ≡ word ∷ others) → spaced (words_of line) ≡ line → spaced (cond t ([] ∷ words_of line) (onto_first b (words_of line))) ≡ b ∷ line
    by_byte true is words whole =
        let space : b ≡ 32 = grind (arith, nat_tests) in
        ap (λ ws. spaced ([] ∷ ws)) words.2 ∙ ap (λ (text : List ℕ). 32 ∷ text) (ap spaced (sym words.2) ∙ whole) ∙ ap (λ x. x ∷ line) (sym space)
    by_byte false is words whole =
        ap (λ ws. spaced (onto_first b ws)) words.2 ∙ spaced-onto b words.0 words.1 ∙ ap (λ (text : List ℕ). b ∷ text) (ap spaced (sym words.2) ∙ whole)
