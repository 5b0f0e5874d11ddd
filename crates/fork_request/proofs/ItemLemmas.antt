-- Items: the words after a repository.
use Rattle.std.proofs.Common.{◌≡◌, ◌≢◌, ℕ, ◌≤◌, Bool, true, false, not, eqb, cond, All, List, [], ◌∷◌, ◌++◌, Option, Some, None, refl, sym, ap, subst, ◌∙◌, inl, inr, ◌⊎◌, arith, codes, length}
use Rattle.std.specs.List.{list_all}
use Rattle.std.specs.Str.{bytes_eq}
use Rattle.std.proofs.lemmas.Bool.Decides.{nat_tests}
use Rattle.std.proofs.lemmas.List.{append-nil}
use Rattle.std.proofs.lemmas.List.Elements.{All-append, All-cons, All-head, All-nil, All-tail}
use Rattle.std.proofs.lemmas.List.Sums.{AllPass-from_list_all, list_all-from_AllPass}
use Rattle.std.proofs.lemmas.Slice.Eq.{bytes_eq-Decides}
use Rattle.git_name.specs.Text.{Lacks, onto_first, words_of}
use Rattle.git_name.proofs.TextLemmas.{first_of_words, spaced, spaced-words_of, words_of-append, words_of-plain}
use Rattle.fork_request.specs.Spelling.{AreItems, IsItem, IsWord, behind_spaces}
use Rattle.fork_request.specs.Words.{and_items, is_item, items_in, some_word, word_and_items}
use Rattle.fork_request.proofs.PartLemmas.{Parted, lacks_behind, lacks_front, parted, some_right}

-- ---- the test of an item

item_some : (word : List ℕ) → is_item word ≡ true → 1 ≤ length word
item_some [] is = absurd (cc)
item_some (b ∷ word) is = omega arith

item_more : (word : List ℕ) → is_item word ≡ true → word ≢ codes "^"
item_more word is same = (let bad : true ≡ false = sym is ∙ ap is_item same in absurd (cc bad))

item_passes : (word : List ℕ) → IsItem word → is_item word ≡ true
item_passes [] item = absurd (let some = item.word.some in omega arith)
item_passes (b ∷ word) item = by (bytes_eq (b ∷ word) (codes "^")) (bytes_eq-Decides (b ∷ word) (codes "^")).0
  where
    by : (t : Bool) → (t ≡ true → b ∷ word ≡ codes "^") → not t ≡ true
    by true same = absurd (item.more (same refl))
    by false same = refl

-- a line has a word, so its words are items if each is one
pub items_are : (text : List ℕ) (t : Bool) → list_all is_item (words_of text) ≡ t → items_in (words_of text) ≡ cond t (Some (words_of text)) None
items_are text t is = by (words_of text) (first_of_words text).0 (first_of_words text).1 (first_of_words text).2 is
  where
    by : (words : List (List ℕ)) (word : List ℕ) (others : List (List ℕ)) → words ≡ word ∷ others → list_all is_item words ≡ t → items_in words ≡ cond t (Some words) None
    by words word others same passes =
        ap items_in same ∙ sym (ap (λ (l : List (List ℕ)). cond {A = Option (List (List ℕ))} (list_all is_item l) (Some l) None) same) ∙ ap (λ b. cond {A = Option (List (List ℕ))} b (Some words) None) passes

pub items_there : (items : List (List ℕ)) → AreItems items → items_in items ≡ Some items
items_there [] are = absurd (let some = are.some in omega arith)
items_there (item ∷ items) are =
    ap (λ t. cond {A = Option (List (List ℕ))} t (Some (item ∷ items)) None) (list_all-from_AllPass is_item (item ∷ items) (λ k d within. item_passes _ (are.each k d within)))

-- ---- the words of a line

-- what holds of each byte but SP holds of each byte of the words
words_each : (P : ℕ → Type 0) (text : List ℕ) → All (λ b. b ≢ 32 → P b) text → All (All P) (words_of text)
words_each P [] holds = All-cons (All P) [] [] (All-nil P) (All-nil (All P))
words_each P (b ∷ text) holds = by_byte (eqb b 32) (λ is. other is) (first_of_words text) (words_each P text (All-tail (λ x. x ≢ 32 → P x) b text holds))
  where
    other : eqb b 32 ≡ false → b ≢ 32
    other is same = grind (arith, nat_tests)

    by_byte : (t : Bool) → (t ≡ false → b ≢ 32) → (word : List ℕ) × (others : List (List ℕ)) × (words_of text ≡ word ∷ others) → All (All P) (words_of text) → All (All P) (cond t ([] ∷ words_of text) (onto_first b (words_of text)))
    by_byte true apart words each = All-cons (All P) [] (words_of text) (All-nil P) each
    by_byte false apart words each =
        let parts : All (All P) (words.0 ∷ words.1) = subst (All (All P)) words.2 each in
        let first = All-cons P b words.0 (All-head (λ x. x ≢ 32 → P x) b text holds (apart refl)) (All-head (All P) words.0 words.1 parts) in
        subst (λ ws. All (All P) (onto_first b ws)) (sym words.2) (All-cons (All P) (b ∷ words.0) words.1 first (All-tail (All P) words.0 words.1 parts))

words_right : (text : List ℕ) → Lacks 10 text → list_all is_item (words_of text) ≡ true → AreItems (words_of text)
words_right text ends passes = record {
  some = (let more = first_of_words text in let long = ap (λ (l : List (List ℕ)). length l) more.2 in omega arith);
  each = λ k d within.
      let item = AllPass-from_list_all is_item (words_of text) passes k d within in
      record {
        word = record {
          some = item_some _ item;
          no_space = words_each (λ b. b ≢ 32) text (λ i e short apart. apart) k d within;
          no_line_end = words_each (λ b. b ≢ 10) text (λ i e short apart. ends i e short) k d within;
        };
        more = item_more _ item;
      };
}

-- ---- words after spaces

behind_spaced : (word : List ℕ) (words : List (List ℕ)) → behind_spaces (word ∷ words) ≡ 32 ∷ spaced (word ∷ words)
behind_spaced word [] = ap (λ text. 32 ∷ text) (append-nil word)
behind_spaced word (other ∷ words) = ap (λ text. 32 ∷ (word ++ text)) (behind_spaced other words)

behind_words : (text : List ℕ) → behind_spaces (words_of text) ≡ 32 ∷ text
behind_words text =
    let more = first_of_words text in
    ap behind_spaces more.2 ∙ behind_spaced more.0 more.1 ∙ ap (λ (line : List ℕ). 32 ∷ line) (ap spaced (sym more.2) ∙ spaced-words_of text)

-- the words of a line put together from words
pub words_of-behind : (word : List ℕ) (words : List (List ℕ)) → Lacks 32 word → All (Lacks 32) words → words_of (word ++ behind_spaces words) ≡ word ∷ words
words_of-behind word [] lacks each = ap words_of (append-nil word) ∙ words_of-plain word lacks
words_of-behind word (other ∷ words) lacks each =
    words_of-append word (other ++ behind_spaces words) lacks ∙ ap (λ ws. word ∷ ws) (words_of-behind other words (All-head (Lacks 32) other words each) (All-tail (Lacks 32) other words each))

pub behind_lacks : (words : List (List ℕ)) → All (Lacks 10) words → Lacks 10 (behind_spaces words)
behind_lacks [] each = All-nil (λ b. b ≢ 10)
behind_lacks (word ∷ words) each =
    All-cons (λ b. b ≢ 10) 32 (word ++ behind_spaces words) (λ same. omega (arith, same))
    (All-append (λ b. b ≢ 10) word (behind_spaces words) (All-head (Lacks 10) word words each) (behind_lacks words (All-tail (Lacks 10) word words each)))

-- ---- a word, and items after it

pub record WordAndItems (text : List ℕ) : Type 0 where
  pub word : List ℕ
  pub items : List (List ℕ)
  pub is_word : IsWord word
  pub are_items : AreItems items
  pub whole : text ≡ word ++ behind_spaces items

items_right : (text : List ℕ) → Lacks 10 text → (items_in (words_of text) ≡ None) ⊎ ((items_in (words_of text) ≡ Some (words_of text)) × AreItems (words_of text))
items_right text ends = by (list_all is_item (words_of text)) refl
  where
    by : (t : Bool) → list_all is_item (words_of text) ≡ t → (items_in (words_of text) ≡ None) ⊎ ((items_in (words_of text) ≡ Some (words_of text)) × AreItems (words_of text))
    by true passes = inr (items_are text true passes, words_right text ends passes)
    by false passes = inl (items_are text false passes)

no_items : (one : Option (List ℕ)) → and_items one None ≡ None
no_items None = refl
no_items (Some word) = refl

-- what follows a verb is a word and items, or is read as none
pub word_and_items_right : (rest : List ℕ) → Lacks 10 rest → (word_and_items (words_of rest) ≡ None) ⊎ ((t : WordAndItems rest) × (word_and_items (words_of rest) ≡ Some (t.word, t.items)))
word_and_items_right rest ends = by (parted 32 rest)
  where
    made : (part : Parted 32 rest) → word_and_items (words_of rest) ≡ and_items (some_word part.front) (items_in (words_of part.behind))
        → (some_word part.front ≡ None) ⊎ ((some_word part.front ≡ Some part.front) × IsWord part.front)
        → (items_in (words_of part.behind) ≡ None) ⊎ ((items_in (words_of part.behind) ≡ Some (words_of part.behind)) × AreItems (words_of part.behind))
        → (word_and_items (words_of rest) ≡ None) ⊎ ((t : WordAndItems rest) × (word_and_items (words_of rest) ≡ Some (t.word, t.items)))
    made part words (inl none) items = inl (words ∙ ap (λ o. and_items o (items_in (words_of part.behind))) none)
    made part words (inr some) (inl none) = inl (words ∙ ap (and_items (some_word part.front)) none ∙ no_items (some_word part.front))
    made part words (inr some) (inr items) =
        inr (
          record {
            word = part.front;
            items = words_of part.behind;
            is_word = some.1;
            are_items = items.1;
            whole = part.whole ∙ ap (λ text. part.front ++ text) (sym (behind_words part.behind));
          },
          words ∙ ap (λ o. and_items o (items_in (words_of part.behind))) some.0 ∙ ap (and_items (Some part.front)) items.0,
        )

    by : Lacks 32 rest ⊎ Parted 32 rest → (word_and_items (words_of rest) ≡ None) ⊎ ((t : WordAndItems rest) × (word_and_items (words_of rest) ≡ Some (t.word, t.items)))
    by (inl spaces) = inl (ap word_and_items (words_of-plain rest spaces) ∙ no_items (some_word rest))
    by (inr part) =
        let whole : Lacks 10 (part.front ++ 32 ∷ part.behind) = subst (Lacks 10) part.whole ends in
        let front = lacks_front 10 part.front (32 ∷ part.behind) whole in
        let behind = All-tail (λ b. b ≢ 10) 32 part.behind (lacks_behind 10 part.front (32 ∷ part.behind) whole) in
        let words = ap word_and_items (ap words_of part.whole ∙ words_of-append part.front part.behind part.lacks) in
        made part words (some_right part.front part.lacks front) (items_right part.behind behind)
