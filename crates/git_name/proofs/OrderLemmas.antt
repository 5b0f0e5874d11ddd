-- Bytes compare as the numbers do that eight of them at a time write.
use Rattle.std.proofs.Common.{◌≡◌, ◌≢◌, ℕ, zero, suc, ◌+◌, ◌*◌, ◌<◌, ◌≤◌, Bool, true, false, List, [], ◌∷◌, refl, sym, ap, ap₂, ◌∙◌, ◌&&◌, ◌==◌, Ordering, Less, Equal, Greater, length, length-drop, drop, ◌-◌, subst, arith, nat_lt}
use Rattle.std.proofs.lemmas.Bool.Decides.{nat_tests}
use Rattle.std.proofs.lemmas.List.{drop-drop, get_or-drop, nil_from_length}
use Rattle.std.specs.Cmp.{nat_cmp_is, unsigned_ties}
use Rattle.std.specs.Cmp.Lexicographic.{slice_cmp, texts_ties}
use Rattle.std.specs.Int.{from_be_bytes, w64}
use Rattle.std.specs.Ordering.{is_eq, nat_cmp, ordering_then}
use Rattle.std.specs.FinMap.{nat_cmp-IsAntisymmetric}
use Rattle.hex.specs.Hex.{IsBytes}
use Rattle.git_name.specs.Same.{same_name}

-- the number that the first bytes write, after the number of those before
abbrev value : ℕ → ℕ → List ℕ → ℕ
value before zero bytes = before
value before (suc more) [] = before
value before (suc more) (b ∷ bytes) = value (before * 256 + b) more bytes

-- what precedes outweighs what follows
value_less : (more a b : ℕ) (xs ys : List ℕ) → IsBytes xs → IsBytes ys → more ≤ length xs → more ≤ length ys → a < b → value a more xs < value b more ys
value_less zero a b xs ys are too long long_too less = less
value_less (suc more) a b [] ys are too long long_too less = absurd (omega arith)
value_less (suc more) a b (x ∷ xs) [] are too long long_too less = absurd (omega arith)
value_less (suc more) a b (x ∷ xs) (y ∷ ys) are too long long_too less =
    let small : x < 256 = are 0 in
    value_less more (a * 256 + x) (b * 256 + y) xs ys (λ i. are (suc i)) (λ i. too (suc i)) (omega arith) (omega arith) (omega arith)

less_is : (x y : ℕ) → x < y → nat_cmp x y ≡ Less
less_is x y less = sym (nat_cmp_is x y Less less)

greater_is : (x y : ℕ) → y < x → nat_cmp x y ≡ Greater
greater_is x y greater = sym (nat_cmp_is x y Greater greater)

equal_is : (x y : ℕ) → x ≡ y → nat_cmp x y ≡ Equal
equal_is x y same = sym (nat_cmp_is x y Equal same)

-- the numbers of the first bytes decide, and then the rest
by_value : (more before : ℕ) (xs ys : List ℕ) → IsBytes xs → IsBytes ys → more ≤ length xs → more ≤ length ys
    → slice_cmp nat_cmp xs ys ≡ ordering_then (nat_cmp (value before more xs) (value before more ys)) (slice_cmp nat_cmp (drop more xs) (drop more ys))
by_value zero before xs ys are too long long_too = ap (λ o. ordering_then o (slice_cmp nat_cmp xs ys)) (sym (equal_is before before refl))
by_value (suc more) before [] ys are too long long_too = absurd (omega arith)
by_value (suc more) before (x ∷ xs) [] are too long long_too = absurd (omega arith)
by_value (suc more) before (x ∷ xs) (y ∷ ys) are too long long_too =
    by_order (nat_lt x y) (nat_lt y x) refl refl (λ n. by_value more n xs ys (λ i. are (suc i)) (λ i. too (suc i)) (omega arith) (omega arith))
  where
    rest : Ordering
    rest = slice_cmp nat_cmp (drop more xs) (drop more ys)

    below : x < y → value (before * 256 + x) more xs < value (before * 256 + y) more ys
    below less = value_less more (before * 256 + x) (before * 256 + y) xs ys (λ i. are (suc i)) (λ i. too (suc i)) (omega arith) (omega arith) (omega arith)

    above : y < x → value (before * 256 + y) more ys < value (before * 256 + x) more xs
    above less = value_less more (before * 256 + y) (before * 256 + x) ys xs (λ i. too (suc i)) (λ i. are (suc i)) (omega arith) (omega arith) (omega arith)

    by_order : (t u : Bool) → nat_lt x y ≡ t → nat_lt y x ≡ u
        → ((n : ℕ) → slice_cmp nat_cmp xs ys ≡ ordering_then (nat_cmp (value n more xs) (value n more ys)) (slice_cmp nat_cmp (drop more xs) (drop more ys)))
        → ordering_then (nat_cmp x y) (slice_cmp nat_cmp xs ys) ≡ ordering_then (nat_cmp (value (before * 256 + x) more xs) (value (before * 256 + y) more ys)) (slice_cmp nat_cmp (drop more xs) (drop more ys))
    by_order true u lower upper same =
        let less : x < y = grind (arith, nat_tests) in
        ap (λ o. ordering_then o (slice_cmp nat_cmp xs ys)) (less_is x y less) ∙ sym (ap (λ o. ordering_then o rest) (less_is (value (before * 256 + x) more xs) (value (before * 256 + y) more ys) (below less)))
    by_order false true lower upper same =
        let greater : y < x = grind (arith, nat_tests) in
        ap (λ o. ordering_then o (slice_cmp nat_cmp xs ys)) (greater_is x y greater) ∙ sym (ap (λ o. ordering_then o rest) (greater_is (value (before * 256 + x) more xs) (value (before * 256 + y) more ys) (above greater)))
    by_order false false lower upper same =
        let tied : x ≡ y = grind (arith, nat_tests) in
        ap (λ o. ordering_then o (slice_cmp nat_cmp xs ys)) (equal_is x y tied) ∙ same (before * 256 + x)
        ∙ ap (λ n. ordering_then (nat_cmp (value (before * 256 + x) more xs) (value (before * 256 + n) more ys)) rest) tied

-- eight bytes as a number
word_is : (bytes : List ℕ) → 8 ≤ length bytes → value 0 8 bytes ≡ from_be_bytes w64 bytes
word_is [] long = absurd (omega arith)
word_is (a ∷ []) long = absurd (omega arith)
word_is (a ∷ b ∷ []) long = absurd (omega arith)
word_is (a ∷ b ∷ c ∷ []) long = absurd (omega arith)
word_is (a ∷ b ∷ c ∷ d ∷ []) long = absurd (omega arith)
word_is (a ∷ b ∷ c ∷ d ∷ e ∷ []) long = absurd (omega arith)
word_is (a ∷ b ∷ c ∷ d ∷ e ∷ f ∷ []) long = absurd (omega arith)
word_is (a ∷ b ∷ c ∷ d ∷ e ∷ f ∷ g ∷ []) long = absurd (omega arith)
word_is (a ∷ b ∷ c ∷ d ∷ e ∷ f ∷ g ∷ h ∷ rest) long = omega arith

-- the numbers of the first eight bytes decide, and then the rest
pub by_word : (xs ys : List ℕ) → IsBytes xs → IsBytes ys → 8 ≤ length xs → 8 ≤ length ys
    → slice_cmp nat_cmp xs ys ≡ ordering_then (nat_cmp (from_be_bytes w64 xs) (from_be_bytes w64 ys)) (slice_cmp nat_cmp (drop 8 xs) (drop 8 ys))
by_word xs ys are too long long_too =
    by_value 8 0 xs ys are too long long_too
    ∙ ap₂ (λ (a b : ℕ). ordering_then (nat_cmp a b) (slice_cmp nat_cmp (drop 8 xs) (drop 8 ys))) (word_is xs long) (word_is ys long_too)

bytes_behind : (n : ℕ) (xs : List ℕ) → IsBytes xs → IsBytes (drop n xs)
bytes_behind n xs are i = subst (λ b. b < 256) (sym (get_or-drop n xs i 0)) (are (n + i))

-- how eight bytes of two texts compare
abbrev at_place : ℕ → List ℕ → List ℕ → Ordering
at_place n xs ys = nat_cmp (from_be_bytes w64 (drop n xs)) (from_be_bytes w64 (drop n ys))

next_word : (n : ℕ) (xs ys : List ℕ) → IsBytes xs → IsBytes ys → n + 8 ≤ length xs → n + 8 ≤ length ys
    → slice_cmp nat_cmp (drop n xs) (drop n ys) ≡ ordering_then (at_place n xs ys) (slice_cmp nat_cmp (drop (n + 8) xs) (drop (n + 8) ys))
next_word n xs ys are too long long_too =
    let first : length (drop n xs) ≡ length xs - n = length-drop n xs in
    let second : length (drop n ys) ≡ length ys - n = length-drop n ys in
    by_word (drop n xs) (drop n ys) (bytes_behind n xs are) (bytes_behind n ys too) (omega arith) (omega arith)
    ∙ ap₂ (λ (a b : List ℕ). ordering_then (at_place n xs ys) (slice_cmp nat_cmp a b)) (drop-drop 8 n xs) (drop-drop 8 n ys)

no_more : (xs : List ℕ) → length xs ≡ 32 → drop 32 xs ≡ []
no_more xs long = nil_from_length (drop 32 xs) (let left : length (drop 32 xs) ≡ length xs - 32 = length-drop 32 xs in omega arith)

regrouped : (a b c : Ordering) → ordering_then a (ordering_then b (ordering_then c Equal)) ≡ ordering_then (ordering_then a b) c
regrouped Less b c = refl
regrouped Greater b c = refl
regrouped Equal Less c = refl
regrouped Equal Greater c = refl
regrouped Equal Equal Less = refl
regrouped Equal Equal Equal = refl
regrouped Equal Equal Greater = refl

-- the order of two names after their first eight bytes
pub behind_first : (xs ys : List ℕ) → IsBytes xs → IsBytes ys → length xs ≡ 32 → length ys ≡ 32
    → slice_cmp nat_cmp (drop 8 xs) (drop 8 ys) ≡ ordering_then (ordering_then (at_place 8 xs ys) (at_place 16 xs ys)) (at_place 24 xs ys)
behind_first xs ys are too long long_too =
    let last = next_word 24 xs ys are too (omega arith) (omega arith) ∙ ap (ordering_then (at_place 24 xs ys)) (ap₂ (slice_cmp nat_cmp) (no_more xs long) (no_more ys long_too)) in
    let third = next_word 16 xs ys are too (omega arith) (omega arith) ∙ ap (ordering_then (at_place 16 xs ys)) last in
    next_word 8 xs ys are too (omega arith) (omega arith) ∙ ap (ordering_then (at_place 8 xs ys)) third ∙ regrouped (at_place 8 xs ys) (at_place 16 xs ys) (at_place 24 xs ys)

-- the first eight bytes decide if they differ
pub first_decides : (xs ys : List ℕ) → IsBytes xs → IsBytes ys → length xs ≡ 32 → length ys ≡ 32 → (first second : ℕ) → first ≡ from_be_bytes w64 xs → second ≡ from_be_bytes w64 ys → first ≢ second
    → nat_cmp first second ≡ slice_cmp nat_cmp xs ys
first_decides xs ys are too long long_too first second is is_too apart =
    decided (nat_cmp first second) (λ tied. apart (nat_cmp-IsAntisymmetric first second tied)) (slice_cmp nat_cmp (drop 8 xs) (drop 8 ys))
    ∙ ap₂ (λ (a b : ℕ). ordering_then (nat_cmp a b) (slice_cmp nat_cmp (drop 8 xs) (drop 8 ys))) is is_too
    ∙ sym (by_word xs ys are too (omega arith) (omega arith))
  where
    decided : (o : Ordering) → (o ≡ Equal → ⊥) → (rest : Ordering) → o ≡ ordering_then o rest
    decided Less apart rest = refl
    decided Equal apart rest = absurd (apart refl)
    decided Greater apart rest = refl

-- the rest decides if they are equal
pub rest_decides : (xs ys : List ℕ) → IsBytes xs → IsBytes ys → length xs ≡ 32 → length ys ≡ 32 → (first second : ℕ) → first ≡ from_be_bytes w64 xs → second ≡ from_be_bytes w64 ys → first ≡ second
    → slice_cmp nat_cmp (drop 8 xs) (drop 8 ys) ≡ slice_cmp nat_cmp xs ys
rest_decides xs ys are too long long_too first second is is_too same =
    sym (by_word xs ys are too (omega arith) (omega arith)
    ∙ ap (λ o. ordering_then o (slice_cmp nat_cmp (drop 8 xs) (drop 8 ys))) (equal_is (from_be_bytes w64 xs) (from_be_bytes w64 ys) (sym is ∙ same ∙ is_too)))

-- whether eight bytes of two texts are the same number
abbrev same_at : ℕ → List ℕ → List ℕ → Bool
same_at n xs ys = from_be_bytes w64 (drop n xs) == from_be_bytes w64 (drop n ys)

tied_at : (n : ℕ) (xs ys : List ℕ) → same_at n xs ys ≡ is_eq (at_place n xs ys)
tied_at n xs ys = unsigned_ties (from_be_bytes w64 (drop n xs)) (from_be_bytes w64 (drop n ys))

all_tied : (a b c d : Ordering) → (((is_eq a && is_eq b) && is_eq c) && is_eq d) ≡ is_eq (ordering_then a (ordering_then (ordering_then b c) d))
all_tied Less b c d = refl
all_tied Greater b c d = refl
all_tied Equal Less c d = refl
all_tied Equal Greater c d = refl
all_tied Equal Equal Less d = refl
all_tied Equal Equal Greater d = refl
all_tied Equal Equal Equal d = refl

-- two names are equal if the four numbers that they write are equal
pub same_words : (xs ys : List ℕ) → IsBytes xs → IsBytes ys → length xs ≡ 32 → length ys ≡ 32
    → (((same_at 0 xs ys && same_at 8 xs ys) && same_at 16 xs ys) && same_at 24 xs ys) ≡ same_name xs ys
same_words xs ys are too long long_too =
    let whole = by_word xs ys are too (omega arith) (omega arith) ∙ ap (ordering_then (at_place 0 xs ys)) (behind_first xs ys are too long long_too) in
    (λ i. ((tied_at 0 xs ys i && tied_at 8 xs ys i) && tied_at 16 xs ys i) && tied_at 24 xs ys i)
    ∙ all_tied (at_place 0 xs ys) (at_place 8 xs ys) (at_place 16 xs ys) (at_place 24 xs ys)
    ∙ sym (texts_ties xs ys ∙ ap is_eq whole)
