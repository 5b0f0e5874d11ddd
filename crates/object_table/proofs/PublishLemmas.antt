-- What is staged comes to be seen, and a tenant that holds nothing comes.
use Rattle.std.proofs.Common.{◌≡◌, ℕ, ◌+◌, ◌<◌, ◌≤◌, Bool, true, false, ◌||◌, cond, List, Option, None, Some, is_some, refl, sym, ap, subst, ◌∙◌}
use Rattle.std.specs.Option.{option_and_then, option_map}
use Rattle.std.specs.Ordering.{eq_by_cmp}
use Rattle.std.specs.FinMap.{FinMap, contains_key, empty, get, get-empty, get-insert, insert, same_map}
use Rattle.git_name.specs.Name.{name_cmp}
use Rattle.git_name.proofs.MapLemmas.{get_map_values, map_values_insert}
use Rattle.git_name.proofs.Names.{name_exact, name_total}
use Rattle.number_links.specs.Numbers.{has}
use Rattle.object_table.specs.Holders.{AreHeld, holders_of}
use Rattle.object_table.specs.Ledgers.{with_ledger}
use Rattle.object_table.specs.declared.row.Row.{Row}
use Rattle.object_table.specs.declared.word.Word.{Word}
use Rattle.object_table.specs.Rows.{AreRows, Rows, TableState, count_in, one_if, row_in}
use Rattle.object_table.specs.Totals.{seen_use, total_of, use_of_word, used_by}
use Rattle.object_table.specs.Views.{IsOne, IsOwn, Moves, Sets, all_words, word_by, word_in, words_of}
use Rattle.object_table.specs.Words.{Words, published_words, seen_word}
use Rattle.object_table.proofs.ChosenLemmas.{get_chosen}
use Rattle.object_table.proofs.HolderLemmas.{added_holders}
use Rattle.object_table.proofs.SumLemmas.{same_sums, sum_empty, worth}
use Rattle.object_table.proofs.ViewLemmas.{get_words}

-- ---- sums
published_worth : (o : Option Word) → worth seen_use (option_and_then (λ word. Some (seen_word word)) o) ≡ worth use_of_word o
published_worth None = refl
published_worth (Some word) = refl

published_all : (o : Option Word) → worth use_of_word (option_and_then (λ word. Some (seen_word word)) o) ≡ worth use_of_word o
published_all None = refl
published_all (Some word) = refl

used_published : (words : Words) → used_by (published_words words) ≡ total_of words
unfolding used_by total_of
used_published words = same_sums name_total name_exact seen_use use_of_word (published_words words) words (λ q.
    ap (worth seen_use) (get_chosen name_total name_exact (λ _ word. Some (seen_word word)) words q) ∙ published_worth (get words q))

total_published : (words : Words) → total_of (published_words words) ≡ total_of words
unfolding total_of
total_published words = same_sums name_total name_exact use_of_word use_of_word (published_words words) words (λ q.
    ap (worth use_of_word) (get_chosen name_total name_exact (λ _ word. Some (seen_word word)) words q) ∙ published_all (get words q))

pub nothing_used : used_by empty ≡ 0
unfolding used_by
nothing_used = sum_empty name_cmp seen_use

pub nothing_in_all : total_of empty ≡ 0
unfolding total_of
nothing_in_all = sum_empty name_cmp use_of_word

-- ---- publishing
published_by : (row : Row) (v s : Bool) → word_by row (v || s) false ≡ option_and_then (λ word. Some (seen_word word)) (word_by row v s)
published_by row true true = refl
published_by row true false = refl
published_by row false true = refl
published_by row false false = refl

published_there : (o : Option Word) → is_some (option_and_then (λ word. Some (seen_word word)) o) ≡ is_some o
published_there None = refl
published_there (Some word) = refl

or_none : (b : Bool) → b || false ≡ b
or_none true = refl
or_none false = refl

module _ (table : TableState) (own after : Sets) (are : AreRows table.entries) (visible : (q : ℕ) → has after.visible q ≡ has own.visible q || has own.staged q) (staged : (q : ℕ) → has after.staged q ≡ false) (used : after.used ≡ own.total) (total : after.total ≡ own.total) where
  word_at : (o : Option Row) → option_and_then (word_in after) o ≡ option_and_then (λ word. Some (seen_word word)) (option_and_then (word_in own) o)
  word_at None = refl
  word_at (Some row) = (λ i. word_by row (visible row.number i) (staged row.number i)) ∙ published_by row (has own.visible row.number) (has own.staged row.number)

  pub published_is : words_of table.entries after ≡ published_words (words_of table.entries own)
  published_is = same_map name_total name_exact _ _ (λ q.
      get_words table.entries after q are.distinct ∙ word_at (row_in table.entries q) ∙ ap (option_and_then (λ word. Some (seen_word word))) (sym (get_words table.entries own q are.distinct))
      ∙ sym (get_chosen name_total name_exact (λ _ word. Some (seen_word word)) (words_of table.entries own) q))

  same_held : (q : List ℕ) → contains_key (words_of table.entries after) q ≡ contains_key (words_of table.entries own) q
  same_held q = ap (λ w. contains_key w q) published_is ∙ ap is_some (get_chosen name_total name_exact (λ _ word. Some (seen_word word)) (words_of table.entries own) q) ∙ published_there (get (words_of table.entries own) q)

  pub published_moves : Moves table table own after
  published_moves = record { told = λ q. refl; places = refl; counts = λ q. ap (λ b. count_in table.entries q + one_if b) (sym (same_held q)) }

  pub published_one : IsOne table.entries own → IsOne table.entries after
  published_one one = record {
    own = record {
      within = λ n held. one.own.within n (sym ((λ i. visible n i || staged n i) ∙ or_none (has own.visible n || has own.staged n)) ∙ held);
      visible = used ∙ one.own.both ∙ sym (ap used_by published_is ∙ used_published (words_of table.entries own));
      both = total ∙ one.own.both ∙ sym (ap total_of published_is ∙ total_published (words_of table.entries own));
    };
    some = λ q. subst (λ b. one_if b ≤ count_in table.entries q) (sym (same_held q)) (one.some q);
    fits = λ q. subst (λ b. count_in table.entries q + 1 < 18446744073709551616 + one_if b) (sym (same_held q)) (one.fits q);
  }

-- ---- a tenant that holds nothing
module _ (rows : Rows) (m : FinMap name_cmp Sets) (t : List ℕ) (own : Sets) (are : AreRows rows) (held : AreHeld rows m) (visible : (q : ℕ) → has own.visible q ≡ false) (staged : (q : ℕ) → has own.staged q ≡ false) (used : own.used ≡ 0) (total : own.total ≡ 0) (absent : contains_key m t ≡ false) where
  nothing_at : (o : Option Row) → option_and_then (word_in own) o ≡ None
  nothing_at None = refl
  nothing_at (Some row) = (λ i. word_by row (visible row.number i) (staged row.number i))

  no_words : words_of rows own ≡ empty
  no_words = same_map name_total name_exact _ _ (λ q. get_words rows own q are.distinct ∙ nothing_at (row_in rows q) ∙ sym (get-empty name_cmp q))

  still_absent : contains_key (all_words rows m) t ≡ false
  still_absent = ap is_some (get_map_values name_total (words_of rows) m t) ∙ by (get m t) absent
    where
      by : (o : Option Sets) → is_some o ≡ false → is_some (option_map (words_of rows) o) ≡ false
      by None is = refl
      by (Some sets) is = absurd (let wrong : ⊥ = cc in wrong)

  pub added_is : all_words rows (insert m t own) ≡ with_ledger (all_words rows m) t
  added_is =
      map_values_insert name_total name_exact (words_of rows) m t own ∙ ap (insert (all_words rows m) t) no_words
      ∙ ap (λ b. cond b (all_words rows m) (insert (all_words rows m) t empty)) (sym still_absent)

  pub added_held : AreHeld rows (insert m t own)
  added_held = record {
    counted = λ q. held.counted q ∙ sym (ap (λ x. holders_of x q) added_is ∙ added_holders (all_words rows m) t q);
    own = λ q sets there. own_at q sets (eq_by_cmp name_cmp q t) (sym (get-insert name_total m t own q) ∙ there);
  }
    where
      fresh : IsOwn rows own
      fresh = record {
        within = λ n holding. absurd (let wrong : true ≡ false = sym holding ∙ (λ i. visible n i || staged n i) in let bad : ⊥ = cc in bad);
        visible = used ∙ sym (ap used_by no_words ∙ nothing_used);
        both = total ∙ sym (ap total_of no_words ∙ nothing_in_all);
      }

      own_at : (q : List ℕ) (sets : Sets) (b : Bool) → cond b (Some own) (get m q) ≡ Some sets → IsOwn rows sets
      own_at q sets true is = (let same : own ≡ sets = cc in subst (IsOwn rows) same fresh)
      own_at q sets false is = held.own q sets is

pub there_already : (rows : Rows) (m : FinMap name_cmp Sets) (t : List ℕ) → contains_key m t ≡ true → all_words rows m ≡ with_ledger (all_words rows m) t
there_already rows m t there = ap (λ b. cond b (all_words rows m) (insert (all_words rows m) t empty)) (sym (ap is_some (get_map_values name_total (words_of rows) m t) ∙ by (get m t) there))
  where
    by : (o : Option Sets) → is_some o ≡ true → is_some (option_map (words_of rows) o) ≡ true
    by None is = absurd (let wrong : ⊥ = cc in wrong)
    by (Some sets) is = refl
