-- What a tenant holds is settled number by number.
use Rattle.std.proofs.Common.{◌≡◌, ◌≢◌, ℕ, ◌+◌, ◌<◌, ◌≤◌, Bool, true, false, ◌&&◌, not, cond, nat_lt, List, Option, None, Some, refl, sym, ap, ◌∙◌, arith}
use Rattle.std.specs.Option.{option_and_then, option_map, option_map_or}
use Rattle.std.specs.FinMap.{get, same_map}
use Rattle.std.proofs.lemmas.Bool.{ltb-false, ltb-true, lt-ltb}
use Rattle.git_name.specs.Same.{same_name}
use Rattle.git_name.proofs.Names.{name_exact, name_total}
use Rattle.number_links.specs.Numbers.{Pages, has}
use Rattle.object_table.specs.Chosen.{chosen}
use Rattle.object_table.specs.Links.{is_among}
use Rattle.object_table.specs.declared.row.Row.{Row}
use Rattle.object_table.specs.declared.word.Word.{Word}
use Rattle.object_table.specs.Rows.{AreRows, Rows, TableState, TellSame, row_in, told_of}
use Rattle.object_table.specs.Views.{IsOne, Moves, Sets, word_by, word_in, words_of}
use Rattle.object_table.specs.Words.{kept_word, unstaged_word}
use Rattle.object_table.proofs.ChosenLemmas.{get_chosen}
use Rattle.object_table.proofs.PlaceLemmas.{one_name}
use Rattle.object_table.proofs.StepLemmas.{moves_then}
use Rattle.object_table.proofs.ViewLemmas.{get_words}

-- whether the number of a name is below this one; a name that has none is settled
abbrev pub reached : Rows → ℕ → List ℕ → Bool
reached rows from q = option_map_or (λ row. nat_lt row.number from) (row_in rows q) true

reached_told : (from : ℕ) (o : Option Row) → option_map_or (λ (row : Row). nat_lt row.number from) o true ≡ option_map_or (λ (row : Row). nat_lt row.number from) (option_map told_of o) true
reached_told from None = refl
reached_told from (Some row) = refl

reached_still : (old new : Rows) (from : ℕ) (q : List ℕ) → TellSame old new → reached new from q ≡ reached old from q
reached_still old new from q told = reached_told from (row_in new q) ∙ ap (λ o. option_map_or (λ (row : Row). nat_lt row.number from) o true) (told q) ∙ sym (reached_told from (row_in old q))

differ : {m n : ℕ} → (b : Bool) → nat_lt m n ≡ b → (m < n → ⊥) → b ≡ false
differ true is no_less = absurd (no_less (ltb-true _ _ is))
differ false is no_less = refl

module _ (f : List ℕ → Word → Option Word) (first : TableState) (begun : Sets) where
  abbrev old : List ℕ → Option Word
  old q = get (words_of first.entries begun) q

  -- the words of names with numbers below this one are settled, and the others are as at first
  pub record IsLeaving (now : TableState) (own : Sets) (from : ℕ) : Type 0 where
    pub words : (q : List ℕ) → get (words_of now.entries own) q ≡ cond (reached now.entries from q) (option_and_then (f q) (get (words_of first.entries begun) q)) (get (words_of first.entries begun) q)
    pub moves : Moves first now begun own
    pub one : IsOne now.entries own

  pub leaving_begin : AreRows first.entries → IsOne first.entries begun → IsLeaving first begun 0
  leaving_begin are one = record {
    words = λ q. by q (row_in first.entries q) refl;
    moves = record { told = λ q. refl; places = refl; counts = λ q. refl };
    one = one;
  }
    where
      by : (q : List ℕ) (o : Option Row) → row_in first.entries q ≡ o → get (words_of first.entries begun) q ≡ cond (option_map_or (λ (row : Row). nat_lt row.number 0) o true) (option_and_then (f q) (get (words_of first.entries begun) q)) (get (words_of first.entries begun) q)
      by q None is = (let nothing : get (words_of first.entries begun) q ≡ None = get_words first.entries begun q are.distinct ∙ ap (option_and_then (word_in begun)) is in nothing ∙ sym (ap (option_and_then (f q)) nothing))
      by q (Some row) is =
          ap (λ b. cond b (option_and_then (f q) (get (words_of first.entries begun) q)) (get (words_of first.entries begun) q)) (sym (differ (nat_lt row.number 0) refl (λ less. omega (arith, less))))

  -- one number more
  pub leaving_more : (mid new : TableState) (own after : Sets) (from n : ℕ) (name : List ℕ) (row : Row) → AreRows mid.entries → IsLeaving mid own from → row_in mid.entries name ≡ Some row → row.number ≡ n → from ≤ n
      → ((q : List ℕ) (other : Row) → row_in mid.entries q ≡ Some other → from ≤ other.number → other.number < n → option_and_then (f q) (word_in own other) ≡ word_in own other)
      → ((q : List ℕ) → get (words_of new.entries after) q ≡ cond (same_name name q) (option_and_then (f name) (get (words_of mid.entries own) name)) (get (words_of mid.entries own) q))
      → Moves mid new own after → IsOne new.entries after → IsLeaving new after (n + 1)
  leaving_more mid new own after from n name row are was here number low idle step moves one = record {
    words = λ q. step q ∙ by q (same_name name q) refl (row_in mid.entries q) refl
        ∙ ap (λ b. cond b (option_and_then (f q) (get (words_of first.entries begun) q)) (get (words_of first.entries begun) q)) (sym (reached_still mid.entries new.entries (n + 1) q moves.told));
    moves = moves_then first mid new begun own after was.moves moves;
    one = one;
  }
    where
      at_reached : (q : List ℕ) (b : Bool) → reached mid.entries from q ≡ b → get (words_of mid.entries own) q ≡ cond b (option_and_then (f q) (old q)) (old q)
      at_reached q b is = was.words q ∙ ap (λ b. cond b (option_and_then (f q) (old q)) (old q)) is

      by : (q : List ℕ) (b : Bool) → same_name name q ≡ b → (o : Option Row) → row_in mid.entries q ≡ o
          → cond b (option_and_then (f name) (get (words_of mid.entries own) name)) (get (words_of mid.entries own) q) ≡ cond (option_map_or (λ (r : Row). nat_lt r.number (n + 1)) o true) (option_and_then (f q) (old q)) (old q)
      by q true same o is =
          (let at = one_name name q same in
          let it : o ≡ Some row = sym is ∙ ap (row_in mid.entries) (sym at) ∙ here in
          let under : nat_lt row.number (n + 1) ≡ true = lt-ltb _ _ (omega (arith, number)) in
          let not_yet : reached mid.entries from name ≡ false = ap (λ o. option_map_or (λ (r : Row). nat_lt r.number from) o true) here ∙ differ (nat_lt row.number from) refl (λ less. omega (arith, less, low, number)) in
          ap (option_and_then (f name)) (at_reached name false not_yet) ∙ ap (λ k. option_and_then (f k) (old k)) at
          ∙ ap (λ b. cond b (option_and_then (f q) (old q)) (old q)) (sym (ap (λ o. option_map_or (λ (r : Row). nat_lt r.number (n + 1)) o true) it ∙ under)))
      by q false apart None is = at_reached q true (ap (λ o. option_map_or (λ (r : Row). nat_lt r.number from) o true) is)
      by q false apart (Some other) is = at (nat_lt other.number from) refl (nat_lt other.number n) refl
        where
          others : other.number ≢ n
          others same = (let tied = are.numbers name q row other here is (number ∙ sym same) in let bad : true ≡ false = sym tied ∙ apart in absurd (let wrong : ⊥ = cc in wrong))

          found : (b : Bool) → nat_lt other.number from ≡ b → get (words_of mid.entries own) q ≡ cond b (option_and_then (f q) (old q)) (old q)
          found b less = at_reached q b (ap (λ o. option_map_or (λ (r : Row). nat_lt r.number from) o true) is ∙ less)

          at : (b : Bool) → nat_lt other.number from ≡ b → (c : Bool) → nat_lt other.number n ≡ c → get (words_of mid.entries own) q ≡ cond (nat_lt other.number (n + 1)) (option_and_then (f q) (old q)) (old q)
          at true less c between =
              found true less ∙ ap (λ b. cond b (option_and_then (f q) (old q)) (old q)) (sym (lt-ltb other.number (n + 1) (let l = ltb-true _ _ less in omega (arith, l, low))))
          at false less true between =
              (let high = ltb-false _ _ less in let under = ltb-true _ _ between in
              let word : get (words_of mid.entries own) q ≡ word_in own other = get_words mid.entries own q are.distinct ∙ ap (option_and_then (word_in own)) is in
              let same = found false less in
              same ∙ sym (ap (option_and_then (f q)) (sym same ∙ word) ∙ idle q other is high under ∙ sym word ∙ same)
              ∙ ap (λ b. cond b (option_and_then (f q) (old q)) (old q)) (sym (lt-ltb other.number (n + 1) (omega (arith, under)))))
          at false less false between =
              (let past = ltb-false _ _ between in let apart_from = others in
              found false less ∙ ap (λ b. cond b (option_and_then (f q) (old q)) (old q)) (sym (differ (nat_lt other.number (n + 1)) refl (λ l. apart_from (omega (arith, l, past))))))

  -- none is left
  pub leaving_end : (now : TableState) (own : Sets) (from : ℕ) → AreRows now.entries → IsLeaving now own from → ((q : List ℕ) (row : Row) → row_in now.entries q ≡ Some row → from ≤ row.number → option_and_then (f q) (word_in own row) ≡ word_in own row)
      → words_of now.entries own ≡ chosen f (words_of first.entries begun)
  leaving_end now own from are was idle = same_map name_total name_exact _ _ (λ q. was.words q ∙ by q (row_in now.entries q) refl ∙ sym (get_chosen name_total name_exact f (words_of first.entries begun) q))
    where
      by : (q : List ℕ) (o : Option Row) → row_in now.entries q ≡ o
          → cond (option_map_or (λ (r : Row). nat_lt r.number from) o true) (option_and_then (f q) (get (words_of first.entries begun) q)) (get (words_of first.entries begun) q) ≡ option_and_then (f q) (get (words_of first.entries begun) q)
      by q None is = refl
      by q (Some row) is = at (nat_lt row.number from) refl
        where
          at : (b : Bool) → nat_lt row.number from ≡ b → cond b (option_and_then (f q) (get (words_of first.entries begun) q)) (get (words_of first.entries begun) q) ≡ option_and_then (f q) (get (words_of first.entries begun) q)
          at true less = refl
          at false less =
              (let word : get (words_of now.entries own) q ≡ word_in own row = get_words now.entries own q are.distinct ∙ ap (option_and_then (word_in own)) is in
              let same = was.words q ∙ ap (λ b. cond b (option_and_then (f q) (get (words_of first.entries begun) q)) (get (words_of first.entries begun) q)) (ap (λ o. option_map_or (λ (r : Row). nat_lt r.number from) o true) is ∙ less) in
              sym (ap (option_and_then (f q)) (sym same ∙ word) ∙ idle q row is (ltb-false _ _ less) ∙ sym word ∙ same))

-- nothing below a number, and nothing from it on
pub none_at_all : (test : ℕ → Bool) (from : ℕ) → ((n : ℕ) → n < from → test n ≡ false) → ((n : ℕ) → from ≤ n → test n ≡ false) → (n : ℕ) → test n ≡ false
none_at_all test from below above n = by (nat_lt n from) refl
  where
    by : (b : Bool) → nat_lt n from ≡ b → test n ≡ false
    by true less = below n (ltb-true n from less)
    by false less = above n (ltb-false n from less)

-- ---- what is staged goes
pub unstaged_by : (row : Row) (v s : Bool) → word_by row v false ≡ option_and_then unstaged_word (word_by row v s)
unstaged_by row true true = refl
unstaged_by row true false = refl
unstaged_by row false true = refl
unstaged_by row false false = refl

pub unstaged_idle : (row : Row) (v s : Bool) → s ≡ false → option_and_then unstaged_word (word_by row v s) ≡ word_by row v s
unstaged_idle row v true is = absurd (let wrong : ⊥ = cc in wrong)
unstaged_idle row true false is = refl
unstaged_idle row false false is = refl

-- ---- only some of what is seen is kept
pub kept_by : (row : Row) (k v s : Bool) → v ≡ true → word_by row k s ≡ option_and_then (kept_word k) (word_by row v s)
kept_by row k false s is = absurd (let wrong : ⊥ = cc in wrong)
kept_by row true true true is = refl
kept_by row true true false is = refl
kept_by row false true true is = refl
kept_by row false true false is = refl

pub kept_idle : (row : Row) (k v s : Bool) → v ≡ false → option_and_then (kept_word k) (word_by row v s) ≡ word_by row v s
kept_idle row k true s is = absurd (let wrong : ⊥ = cc in wrong)
kept_idle row true false true is = refl
kept_idle row true false false is = refl
kept_idle row false false true is = refl
kept_idle row false false false is = refl

-- ---- only some numbers are kept
pub among_told : (old new : Rows) (numbers : Pages) (q : List ℕ) (row : Row) → TellSame old new → row_in new q ≡ Some row → is_among old numbers q ≡ has numbers row.number
among_told old new numbers q row told is = told_number (row_in old q) ∙ ap (λ o. option_map_or (λ (r : Row). has numbers r.number) o false) (sym (told q)) ∙ sym (told_number (row_in new q)) ∙ ap (λ o. option_map_or (λ (r : Row). has numbers r.number) o false) is
  where
    told_number : (o : Option Row) → option_map_or (λ (r : Row). has numbers r.number) o false ≡ option_map_or (λ (r : Row). has numbers r.number) (option_map told_of o) false
    told_number None = refl
    told_number (Some r) = refl

-- what is seen and is not in a set
pub beyond_told : (k v : Bool) → (not k && v) ≡ true → (k ≡ false) × (v ≡ true)
beyond_told true v is = absurd (let wrong : ⊥ = cc in wrong)
beyond_told false v is = (refl, is)

pub kept_beyond : (row : Row) (k v s : Bool) → (not k && v) ≡ false → option_and_then (kept_word k) (word_by row v s) ≡ word_by row v s
kept_beyond row true true true is = refl
kept_beyond row true true false is = refl
kept_beyond row true false true is = refl
kept_beyond row true false false is = refl
kept_beyond row false true s is = absurd (let wrong : ⊥ = cc in wrong)
kept_beyond row false false true is = refl
kept_beyond row false false false is = refl
