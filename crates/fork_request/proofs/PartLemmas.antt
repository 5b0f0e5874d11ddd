-- A text is split at its first byte of a kind, and a line into its words.
use Rattle.std.proofs.Common.{◌≡◌, ◌≢◌, ℕ, ◌≤◌, Bool, true, false, not, eqb, List, [], ◌∷◌, ◌++◌, Option, Some, None, option_map, refl, sym, ap, subst, ◌∙◌, inl, inr, ◌⊎◌, arith, codes, length}
use Rattle.std.specs.List.{list_all}
use Rattle.std.proofs.lemmas.Bool.Decides.{nat_tests}
use Rattle.std.proofs.lemmas.List.{append_assoc}
use Rattle.std.proofs.lemmas.List.Elements.{All-nil, All-cons, All-head, All-tail}
use Rattle.std.proofs.lemmas.List.Sums.{AllPass-from_list_all}
use Rattle.git_name.specs.Text.{Lacks, words_of}
use Rattle.git_name.proofs.TextLemmas.{first_of_words, words_of-append, words_of-plain}
use Rattle.fork_request.specs.Spelling.{IsWord}
use Rattle.fork_request.specs.Words.{all_words, and_word, both_words, one_or_two, pair, sole, some_word, three}
use Rattle.fork_request.proofs.WordLemmas.{sole_many}

pub lacks_front : (byte : ℕ) (xs ys : List ℕ) → Lacks byte (xs ++ ys) → Lacks byte xs
lacks_front byte [] ys lacks = All-nil (λ b. b ≢ byte)
lacks_front byte (x ∷ xs) ys lacks = All-cons (λ b. b ≢ byte) x xs (All-head (λ b. b ≢ byte) x (xs ++ ys) lacks) (lacks_front byte xs ys (All-tail (λ b. b ≢ byte) x (xs ++ ys) lacks))

pub lacks_behind : (byte : ℕ) (xs ys : List ℕ) → Lacks byte (xs ++ ys) → Lacks byte ys
lacks_behind byte [] ys lacks = lacks
lacks_behind byte (x ∷ xs) ys lacks = lacks_behind byte xs ys (All-tail (λ b. b ≢ byte) x (xs ++ ys) lacks)

not_byte : (b byte : ℕ) → not (eqb b byte) ≡ true → b ≢ byte
not_byte b byte is same = grind (arith, nat_tests)

-- as a test shows
pub lacks_by : (byte : ℕ) (text : List ℕ) → list_all (λ b. not (eqb b byte)) text ≡ true → Lacks byte text
lacks_by byte text is = λ k d within. not_byte _ byte (AllPass-from_list_all (λ b. not (eqb b byte)) text is k d within)

-- a text's front up to the byte, and what follows it
pub record Parted (byte : ℕ) (text : List ℕ) : Type 0 where
  pub front : List ℕ
  pub behind : List ℕ
  pub lacks : Lacks byte front
  pub whole : text ≡ front ++ byte ∷ behind

same_byte : (b byte : ℕ) → eqb b byte ≡ true → b ≡ byte
same_byte b byte is = grind (arith, nat_tests)

other_byte : (b byte : ℕ) → eqb b byte ≡ false → b ≢ byte
other_byte b byte is same = grind (arith, nat_tests)

part_more : (byte b : ℕ) (text : List ℕ) (t : Bool) → eqb b byte ≡ t → Lacks byte text ⊎ Parted byte text → Lacks byte (b ∷ text) ⊎ Parted byte (b ∷ text)
part_more byte b text true is rest = inr (record { front = []; behind = text; lacks = All-nil (λ x. x ≢ byte); whole = ap (λ x. x ∷ text) (same_byte b byte is) })
part_more byte b text false is (inl lacks) = inl (All-cons (λ x. x ≢ byte) b text (other_byte b byte is) lacks)
part_more byte b text false is (inr part) =
    inr (record {
      front = b ∷ part.front;
      behind = part.behind;
      lacks = All-cons (λ x. x ≢ byte) b part.front (other_byte b byte is) part.lacks;
      whole = ap (λ xs. b ∷ xs) part.whole;
    })

-- every text lacks the byte, or is split at it
pub parted : (byte : ℕ) (text : List ℕ) → Lacks byte text ⊎ Parted byte text
parted byte [] = inl (All-nil (λ b. b ≢ byte))
parted byte (b ∷ text) = part_more byte b text (eqb b byte) refl (parted byte text)

-- a word that is not empty
pub some_there : (word : List ℕ) → 1 ≤ length word → some_word word ≡ Some word
some_there [] some = absurd (omega arith)
some_there (b ∷ word) some = refl

pub some_right : (word : List ℕ) → Lacks 32 word → Lacks 10 word → (some_word word ≡ None) ⊎ ((some_word word ≡ Some word) × IsWord word)
some_right [] spaces ends = inl refl
some_right (b ∷ word) spaces ends = inr (refl, record { some = omega arith; no_space = spaces; no_line_end = ends })

-- what follows a verb is one word, or is read as none
pub sole_right : (rest : List ℕ) → Lacks 10 rest → (sole (words_of rest) ≡ None) ⊎ ((sole (words_of rest) ≡ Some rest) × IsWord rest)
sole_right rest ends = by (parted 32 rest)
  where
    one : (words_of rest ≡ rest ∷ []) → (some_word rest ≡ None) ⊎ ((some_word rest ≡ Some rest) × IsWord rest) → (sole (words_of rest) ≡ None) ⊎ ((sole (words_of rest) ≡ Some rest) × IsWord rest)
    one words (inl none) = inl (ap sole words ∙ none)
    one words (inr some) = inr (ap sole words ∙ some.0, some.1)

    by : Lacks 32 rest ⊎ Parted 32 rest → (sole (words_of rest) ≡ None) ⊎ ((sole (words_of rest) ≡ Some rest) × IsWord rest)
    by (inl spaces) = one (words_of-plain rest spaces) (some_right rest spaces ends)
    by (inr part) = inl (ap (λ text. sole (words_of text)) part.whole ∙ ap sole (words_of-append part.front part.behind part.lacks) ∙ sole_many part.front part.behind)

-- two words, separated by a space
pub record TwoWords (text : List ℕ) : Type 0 where
  pub first : List ℕ
  pub second : List ℕ
  pub is_first : IsWord first
  pub is_second : IsWord second
  pub whole : text ≡ first ++ 32 ∷ second

both_right : (first second : List ℕ) (one two : Option (List ℕ)) → (one ≡ None) ⊎ ((one ≡ Some first) × IsWord first) → (two ≡ None) ⊎ ((two ≡ Some second) × IsWord second)
    → (both_words one two ≡ None) ⊎ ((both_words one two ≡ Some (first, second)) × IsWord first × IsWord second)
both_right first second one two (inl none) other = inl (ap (λ o. both_words o two) none)
both_right first second one two (inr some) (inl none) = inl (ap (λ o. both_words o two) some.0 ∙ ap (both_words (Some first)) none)
both_right first second one two (inr some) (inr more) = inr (ap (λ o. both_words o two) some.0 ∙ ap (both_words (Some first)) more.0, some.1, more.1)

no_second : (one : Option (List ℕ)) → both_words one None ≡ None
no_second None = refl
no_second (Some first) = refl

-- what follows a verb is two words, or is read as none
pub pair_right : (rest : List ℕ) → Lacks 10 rest → (pair (words_of rest) ≡ None) ⊎ ((t : TwoWords rest) × (pair (words_of rest) ≡ Some (t.first, t.second)))
pair_right rest ends = by (parted 32 rest)
  where
    made : (part : Parted 32 rest) → (both_words (some_word part.front) (sole (words_of part.behind)) ≡ None) ⊎ ((both_words (some_word part.front) (sole (words_of part.behind)) ≡ Some (part.front, part.behind)) × IsWord part.front × IsWord part.behind)
        → (pair (words_of rest) ≡ None) ⊎ ((t : TwoWords rest) × (pair (words_of rest) ≡ Some (t.first, t.second)))
    made part (inl none) = inl (ap (λ text. pair (words_of text)) part.whole ∙ ap pair (words_of-append part.front part.behind part.lacks) ∙ none)
    made part (inr some) =
        inr (
          record { first = part.front; second = part.behind; is_first = some.1; is_second = some.2; whole = part.whole },
          ap (λ text. pair (words_of text)) part.whole ∙ ap pair (words_of-append part.front part.behind part.lacks) ∙ some.0,
        )

    by : Lacks 32 rest ⊎ Parted 32 rest → (pair (words_of rest) ≡ None) ⊎ ((t : TwoWords rest) × (pair (words_of rest) ≡ Some (t.first, t.second)))
    by (inl spaces) = inl (ap pair (words_of-plain rest spaces) ∙ no_second (some_word rest))
    by (inr part) =
        let whole : Lacks 10 (part.front ++ 32 ∷ part.behind) = subst (Lacks 10) part.whole ends in
        let front = lacks_front 10 part.front (32 ∷ part.behind) whole in
        let behind = All-tail (λ b. b ≢ 10) 32 part.behind (lacks_behind 10 part.front (32 ∷ part.behind) whole) in
        made part (both_right part.front part.behind (some_word part.front) (sole (words_of part.behind)) (some_right part.front part.lacks front) (sole_right part.behind behind))

-- three words, separated by a space each
pub record ThreeWords (text : List ℕ) : Type 0 where
  pub first : List ℕ
  pub second : List ℕ
  pub third : List ℕ
  pub is_first : IsWord first
  pub is_second : IsWord second
  pub is_third : IsWord third
  pub whole : text ≡ first ++ 32 ∷ (second ++ 32 ∷ third)

-- a line of three words after a verb
pub three_line : (verb first second third : List ℕ) → verb ++ (first ++ 32 ∷ (second ++ 32 ∷ third)) ++ 10 ∷ [] ≡ verb ++ first ++ codes " " ++ second ++ codes " " ++ third ++ codes "\n"
three_line verb first second third = simp append_assoc

no_others : (one : Option (List ℕ)) → all_words one None ≡ None
no_others None = refl
no_others (Some first) = refl

-- what follows a verb is three words, or is read as none
pub three_right : (rest : List ℕ) → Lacks 10 rest → (three (words_of rest) ≡ None) ⊎ ((t : ThreeWords rest) × (three (words_of rest) ≡ Some (t.first, t.second, t.third)))
three_right rest ends = by (parted 32 rest)
  where
    made : (part : Parted 32 rest) → three (words_of rest) ≡ all_words (some_word part.front) (pair (words_of part.behind))
        → (some_word part.front ≡ None) ⊎ ((some_word part.front ≡ Some part.front) × IsWord part.front)
        → (pair (words_of part.behind) ≡ None) ⊎ ((t : TwoWords part.behind) × (pair (words_of part.behind) ≡ Some (t.first, t.second)))
        → (three (words_of rest) ≡ None) ⊎ ((t : ThreeWords rest) × (three (words_of rest) ≡ Some (t.first, t.second, t.third)))
    made part words (inl none) others = inl (words ∙ ap (λ o. all_words o (pair (words_of part.behind))) none)
    made part words (inr some) (inl none) = inl (words ∙ ap (all_words (some_word part.front)) none ∙ no_others (some_word part.front))
    made part words (inr some) (inr others) =
        inr (
          record {
            first = part.front;
            second = others.0.first;
            third = others.0.second;
            is_first = some.1;
            is_second = others.0.is_first;
            is_third = others.0.is_second;
            whole = part.whole ∙ ap (λ text. part.front ++ 32 ∷ text) others.0.whole;
          },
          words ∙ ap (λ o. all_words o (pair (words_of part.behind))) some.0 ∙ ap (all_words (Some part.front)) others.1,
        )

    by : Lacks 32 rest ⊎ Parted 32 rest → (three (words_of rest) ≡ None) ⊎ ((t : ThreeWords rest) × (three (words_of rest) ≡ Some (t.first, t.second, t.third)))
    by (inl spaces) = inl (ap three (words_of-plain rest spaces) ∙ no_others (some_word rest))
    by (inr part) =
        let whole : Lacks 10 (part.front ++ 32 ∷ part.behind) = subst (Lacks 10) part.whole ends in
        let front = lacks_front 10 part.front (32 ∷ part.behind) whole in
        let behind = All-tail (λ b. b ≢ 10) 32 part.behind (lacks_behind 10 part.front (32 ∷ part.behind) whole) in
        let words = ap three (ap words_of part.whole ∙ words_of-append part.front part.behind part.lacks) in
        made part words (some_right part.front part.lacks front) (pair_right part.behind behind)

many_words : (word rest : List ℕ) → one_or_two (word ∷ words_of rest) ≡ and_word (pair (word ∷ words_of rest))
many_words word rest = (let more = first_of_words rest in ap (λ words. one_or_two (word ∷ words)) more.2 ∙ sym (ap (λ words. and_word (pair (word ∷ words))) more.2))

-- what follows a verb is one word or two, or is read as none
pub one_or_two_right : (rest : List ℕ) → Lacks 10 rest
    → (one_or_two (words_of rest) ≡ None) ⊎ ((one_or_two (words_of rest) ≡ Some (rest, None)) × IsWord rest) ⊎ ((t : TwoWords rest) × (one_or_two (words_of rest) ≡ Some (t.first, Some t.second)))
one_or_two_right rest ends = by (parted 32 rest)
  where
    one : words_of rest ≡ rest ∷ [] → (some_word rest ≡ None) ⊎ ((some_word rest ≡ Some rest) × IsWord rest)
        → (one_or_two (words_of rest) ≡ None) ⊎ ((one_or_two (words_of rest) ≡ Some (rest, None)) × IsWord rest) ⊎ ((t : TwoWords rest) × (one_or_two (words_of rest) ≡ Some (t.first, Some t.second)))
    one words (inl none) = inl (ap one_or_two words ∙ ap (option_map (λ first. (first, None))) none)
    one words (inr some) = inr (inl (ap one_or_two words ∙ ap (option_map (λ first. (first, None))) some.0, some.1))

    two : one_or_two (words_of rest) ≡ and_word (pair (words_of rest)) → (pair (words_of rest) ≡ None) ⊎ ((t : TwoWords rest) × (pair (words_of rest) ≡ Some (t.first, t.second)))
        → (one_or_two (words_of rest) ≡ None) ⊎ ((one_or_two (words_of rest) ≡ Some (rest, None)) × IsWord rest) ⊎ ((t : TwoWords rest) × (one_or_two (words_of rest) ≡ Some (t.first, Some t.second)))
    two words (inl none) = inl (words ∙ ap and_word none)
    two words (inr some) = inr (inr (some.0, words ∙ ap and_word some.1))

    by : Lacks 32 rest ⊎ Parted 32 rest
        → (one_or_two (words_of rest) ≡ None) ⊎ ((one_or_two (words_of rest) ≡ Some (rest, None)) × IsWord rest) ⊎ ((t : TwoWords rest) × (one_or_two (words_of rest) ≡ Some (t.first, Some t.second)))
    by (inl spaces) = one (words_of-plain rest spaces) (some_right rest spaces ends)
    by (inr part) =
        let words = ap words_of part.whole ∙ words_of-append part.front part.behind part.lacks in
        two (ap one_or_two words ∙ many_words part.front part.behind ∙ sym (ap (λ ws. and_word (pair ws)) words)) (pair_right rest ends)
