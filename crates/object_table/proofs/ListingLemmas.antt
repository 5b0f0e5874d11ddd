-- The names of what a tenant sees, number by number.
use Rattle.std.proofs.Common.{◌≡◌, ◌≢◌, ℕ, ◌+◌, ◌<◌, ◌≤◌, Bool, true, false, ◌||◌, ◌&&◌, nat_lt, List, [], ◌∷◌, ◌++◌, length, Option, None, Some, is_some, refl, sym, ap, ◌∙◌, arith}
use Rattle.std.specs.List.{AllByRecursion, IsDistinct, list_any}
use Rattle.std.specs.BTreeMap.{is_at}
use Rattle.std.specs.Map.{keys_of}
use Rattle.std.specs.Option.{option_and_then, option_map_or}
use Rattle.std.specs.Cmp.{eq_by_cmp_equiv}
use Rattle.std.specs.FinMap.{FinMap, contains_key, contains_key-keys, empty, entries, keys, len, len-entries}
use Rattle.std.proofs.lemmas.Bool.{lt-ltb, ltb-false, ltb-true}
use Rattle.std.proofs.lemmas.Cmp.{nat_list_eq_equiv}
use Rattle.std.proofs.lemmas.List.{length-map}
use Rattle.std.proofs.lemmas.Map.Keys.{IsDistinct-from_sorted}
use Rattle.std.proofs.lemmas.Map.Made.{length-from_same_keys}
use Rattle.git_name.specs.Name.{name_cmp}
use Rattle.git_name.specs.Same.{is_listed, same_name}
use Rattle.git_name.proofs.HashMaps.{distinct_by_order, one_test}
use Rattle.git_name.proofs.Names.{name_exact, name_total}
use Rattle.git_name.proofs.SortedNames.{sorted_entries}
use Rattle.number_links.specs.Numbers.{has}
use Rattle.object_table.specs.Chosen.{chosen_in}
use Rattle.object_table.specs.declared.row.Row.{Row}
use Rattle.object_table.specs.declared.word.Word.{Word}
use Rattle.object_table.specs.Rows.{AreRows, Rows, row_in}
use Rattle.object_table.specs.Views.{Sets, word_by, word_in, words_of}
use Rattle.object_table.specs.Words.{is_visible, kept_as, words_that}
use Rattle.object_table.proofs.ChosenLemmas.{entries_chosen, get_chosen}
use Rattle.object_table.proofs.PlaceLemmas.{one_name}
use Rattle.object_table.proofs.SumLemmas.{entries_of_none}
use Rattle.object_table.proofs.ViewLemmas.{get_words}

pub no_names : (p : Word → Bool) → keys (words_that p empty) ≡ []
no_names p = ap keys_of (entries_chosen name_total (λ _ word. kept_as (p word) word) empty ∙ ap (chosen_in (λ _ word. kept_as (p word) word)) (entries_of_none name_cmp))

pub none_counted : (p : Word → Bool) → len (words_that p empty) ≡ 0
none_counted p = len-entries (words_that p empty) ∙ sym (length-map (entries (words_that p empty)) (λ e. e.0)) ∙ ap (λ (ks : List (List ℕ)). length ks) (no_names p)

-- whether a name is seen, of a number below this one
abbrev pub seen_below : Rows → Sets → ℕ → List ℕ → Bool
seen_below rows own from q = option_map_or (λ row. nat_lt row.number from && has own.visible row.number) (row_in rows q) false

pub below_none : (rows : Rows) (own : Sets) (q : List ℕ) → is_listed [] q ≡ seen_below rows own 0 q
below_none rows own q = by (row_in rows q)
  where
    by : (o : Option Row) → false ≡ option_map_or (λ (row : Row). nat_lt row.number 0 && has own.visible row.number) o false
    by None = refl
    by (Some row) = (let nothing : nat_lt row.number 0 ≡ false = search arith in sym (ap (λ b. b && has own.visible row.number) nothing))

not_less : (m n : ℕ) (b : Bool) → nat_lt m n ≡ b → (m < n → ⊥) → b ≡ false
not_less m n true is refuse = absurd (refuse (ltb-true m n is))
not_less m n false is refuse = refl

module _ (rows : Rows) (own : Sets) (from n : ℕ) (name : List ℕ) (row : Row) (are : AreRows rows) (here : row_in rows name ≡ Some row) (number : row.number ≡ n) (low : from ≤ n) (seen : has own.visible n ≡ true) (between : (m : ℕ) → from ≤ m → m < n → has own.visible m ≡ false) where
  pub below_more : (q : List ℕ) → same_name q name || seen_below rows own from q ≡ seen_below rows own (n + 1) q
  below_more q = by (same_name q name) refl (row_in rows q) refl
    where
      by : (b : Bool) → same_name q name ≡ b → (o : Option Row) → row_in rows q ≡ o
          → b || option_map_or (λ (r : Row). nat_lt r.number from && has own.visible r.number) o false ≡ option_map_or (λ (r : Row). nat_lt r.number (n + 1) && has own.visible r.number) o false
      by true same o is =
          (let it : o ≡ Some row = sym is ∙ ap (row_in rows) (one_name q name same) ∙ here in
          let under : nat_lt row.number (n + 1) ≡ true = lt-ltb _ _ (omega (arith, number)) in
          sym (ap (λ o. option_map_or (λ (r : Row). nat_lt r.number (n + 1) && has own.visible r.number) o false) it ∙ ap (λ b. b && has own.visible row.number) under ∙ ap (has own.visible) number ∙ seen))
      by false apart None is = refl
      by false apart (Some other) is = at (nat_lt other.number from) refl (nat_lt other.number n) refl
        where
          differs : other.number ≢ n
          differs same = (let tied = are.numbers q name other row is here (same ∙ sym number) in let bad : true ≡ false = sym tied ∙ apart in absurd (let wrong : ⊥ = cc in wrong))

          at : (b : Bool) → nat_lt other.number from ≡ b → (c : Bool) → nat_lt other.number n ≡ c → b && has own.visible other.number ≡ nat_lt other.number (n + 1) && has own.visible other.number
          at true less c between_them = ap (λ b. b && has own.visible other.number) (sym (lt-ltb other.number (n + 1) (let l = ltb-true _ _ less in omega (arith, l, low))))
          at false less true under =
              (let nothing = between other.number (ltb-false _ _ less) (ltb-true _ _ under) in
              sym (ap (λ b. nat_lt other.number (n + 1) && b) nothing ∙ none_of (nat_lt other.number (n + 1))))
            where
              none_of : (b : Bool) → b && false ≡ false
              none_of true = refl
              none_of false = refl
          at false less false past =
              (let high = ltb-false _ _ past in let apart_from = differs in
              ap (λ b. b && has own.visible other.number) (sym (not_less other.number (n + 1) (nat_lt other.number (n + 1)) refl (λ l. apart_from (omega (arith, l, high))))))

  pub not_below : seen_below rows own from name ≡ false
  not_below = ap (λ o. option_map_or (λ (r : Row). nat_lt r.number from && has own.visible r.number) o false) here
      ∙ ap (λ b. b && has own.visible row.number) (not_less row.number from (nat_lt row.number from) refl (λ l. omega (arith, l, low, number)))

-- all that is seen
seen_by : (row : Row) (v s : Bool) → is_some (option_and_then (λ word. kept_as (is_visible word) word) (word_by row v s)) ≡ v
seen_by row true true = refl
seen_by row true false = refl
seen_by row false true = refl
seen_by row false false = refl

pub all_below : (rows : Rows) (own : Sets) (from : ℕ) → AreRows rows → ((m : ℕ) → from ≤ m → has own.visible m ≡ false) → (q : List ℕ) → seen_below rows own from q ≡ contains_key (words_that is_visible (words_of rows own)) q
all_below rows own from are none q =
    by (row_in rows q)
    ∙ sym (ap is_some (get_chosen name_total name_exact (λ _ word. kept_as (is_visible word) word) (words_of rows own) q ∙ ap (option_and_then (λ word. kept_as (is_visible word) word)) (get_words rows own q are.distinct)))
  where
    by : (o : Option Row) → option_map_or (λ (r : Row). nat_lt r.number from && has own.visible r.number) o false ≡ is_some (option_and_then (λ word. kept_as (is_visible word) word) (option_and_then (word_in own) o))
    by None = refl
    by (Some row) = at (nat_lt row.number from) refl ∙ sym (seen_by row (has own.visible row.number) (has own.staged row.number))
      where
        at : (b : Bool) → nat_lt row.number from ≡ b → b && has own.visible row.number ≡ has own.visible row.number
        at true less = refl
        at false less = sym (none row.number (ltb-false _ _ less))

-- a name that is not there comes last
apart_last : (x name : List ℕ) (xs : List (List ℕ)) → AllByRecursion (λ y. same_name x y ≡ false) xs → same_name x name ≡ false → AllByRecursion (λ y. same_name x y ≡ false) (xs ++ name ∷ [])
apart_last x name [] all apart = (apart, tt)
apart_last x name (y ∷ ys) all apart = (all.0, apart_last x name ys all.1 apart)

or_parts : (a b : Bool) → a || b ≡ false → (a ≡ false) × (b ≡ false)
or_parts true b is = absurd (let wrong : ⊥ = cc in wrong)
or_parts false b is = (refl, is)

pub distinct_last : (names : List (List ℕ)) (name : List ℕ) → IsDistinct same_name names → is_listed names name ≡ false → IsDistinct same_name (names ++ name ∷ [])
unfolding IsDistinct
distinct_last [] name distinct fresh = (tt, tt)
distinct_last (x ∷ xs) name distinct fresh =
    let parts = or_parts (same_name name x) (is_listed xs name) fresh in
    (apart_last x name xs distinct.0 (nat_list_eq_equiv.symm x name ∙ parts.0), distinct_last xs name distinct.1 parts.1)

pub distinct_none : IsDistinct same_name []
unfolding IsDistinct
distinct_none = tt

-- the two tests of names are one
pub listed_alike : (names : List (List ℕ)) (q : List ℕ) → list_any (is_at (name_cmp q)) names ≡ is_listed names q
listed_alike [] q = refl
listed_alike (name ∷ names) q = ap (λ b. b || list_any (is_at (name_cmp q)) names) (sym (one_test q name)) ∙ ap (λ b. same_name q name || b) (listed_alike names q)

-- names that differ are as many as the entries of a map that has just them
pub count_listed : {X : Type 0} (m : FinMap name_cmp X) (names : List (List ℕ)) → IsDistinct same_name names → ((q : List ℕ) → is_listed names q ≡ contains_key m q) → length names ≡ len m
count_listed m names distinct listed =
    length-from_same_keys (eq_by_cmp_equiv name_total) names (keys m) (distinct_by_order names distinct) (IsDistinct-from_sorted name_cmp (keys m) (sorted_entries m))
    (λ q. listed_alike names q ∙ listed q ∙ contains_key-keys m q)
    ∙ length-map (entries m) (λ e. e.0) ∙ sym (len-entries m)
