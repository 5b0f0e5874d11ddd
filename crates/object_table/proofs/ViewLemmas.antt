-- What a tenant's sets say of names, as rows and sets change.
use Rattle.std.proofs.Common.{◌≡◌, ℕ, suc, ◌+◌, ◌*◌, ◌≤◌, Bool, true, false, ◌||◌, cond, List, [], ◌∷◌, Option, None, Some, is_some, length, slice_get, refl, sym, ap, subst, ◌∙◌, arith}
use Rattle.std.specs.Prelude.{sum_by}
use Rattle.std.specs.List.{IsDistinct, cons_option}
use Rattle.std.specs.Map.{keys_of}
use Rattle.std.specs.Option.{option_and_then, option_map}
use Rattle.std.specs.FinMap.{from_entries, get, get-insert, insert, same_map, values}
use Rattle.git_name.specs.Name.{name_cmp}
use Rattle.git_name.specs.Same.{same_name}
use Rattle.git_name.proofs.HashMaps.{distinct_by_order, get_of_hashed, one_name}
use Rattle.git_name.proofs.Names.{name_exact, name_total}
use Rattle.fork_reach.specs.declared.usage.TheConstants.{OBJECT_USE}
use Rattle.object_table.specs.Chosen.{chosen_in}
use Rattle.object_table.specs.declared.row.Row.{Row}
use Rattle.object_table.specs.declared.word.Word.{Word}
use Rattle.object_table.specs.Rows.{IsUsed, Rows, TellSame, row_in, told_of}
use Rattle.object_table.specs.Totals.{seen_use, use_of_word}
use Rattle.object_table.specs.Views.{Sets, word_by, word_in, words_of}
use Rattle.object_table.specs.Words.{Words}
use Rattle.object_table.proofs.ChosenLemmas.{chosen_of_distinct, distinct_chosen, get_chosen}
use Rattle.object_table.proofs.HolderLemmas.{same_tests}
use Rattle.object_table.proofs.PlaceLemmas.{own_name}
use Rattle.object_table.proofs.RowLemmas.{row_at}
use Rattle.object_table.proofs.SumLemmas.{sum_in, sum_in-cons, sum_insert, sum_of_distinct, worth}

-- the word that a tenant has of a name is that of the name's row
pub get_words : (rows : Rows) (sets : Sets) (q : List ℕ) → IsDistinct same_name (keys_of rows) → get (words_of rows sets) q ≡ option_and_then (word_in sets) (row_in rows q)
get_words rows sets q distinct =
    ap (λ m. get m q) (chosen_of_distinct {R = name_cmp} name_total name_exact (λ _ row. word_in sets row) rows (distinct_by_order (keys_of rows) distinct))
    ∙ get_chosen name_total name_exact (λ _ row. word_in sets row) (from_entries {R = name_cmp} rows) q
    ∙ ap (option_and_then (word_in sets)) (get_of_hashed rows q)

-- sets that say the same by name
pub words_alike : (old new : Rows) (sets now : Sets) → IsDistinct same_name (keys_of old) → IsDistinct same_name (keys_of new)
    → ((q : List ℕ) → option_and_then (word_in now) (row_in new q) ≡ option_and_then (word_in sets) (row_in old q)) → words_of new now ≡ words_of old sets
words_alike old new sets now distinct apart each = same_map name_total name_exact _ _ (λ q. get_words new now q apart ∙ each q ∙ sym (get_words old sets q distinct))

word_told : (sets : Sets) (o : Option Row) → option_and_then (word_in sets) o ≡ option_and_then (word_in sets) (option_map told_of o)
word_told sets None = refl
word_told sets (Some row) = refl

-- who is counted is no matter of words
pub words_told : (old new : Rows) (sets : Sets) → IsDistinct same_name (keys_of old) → IsDistinct same_name (keys_of new) → TellSame old new → words_of new sets ≡ words_of old sets
words_told old new sets distinct apart told =
    words_alike old new sets sets distinct apart (λ q. word_told sets (row_in new q) ∙ ap (option_and_then (word_in sets)) (told q) ∙ sym (word_told sets (row_in old q)))

none_is_some : {A : Type 0} (G : Type 0) (x : A) → None ≡ Some x → G
none_is_some G x e = let differs : ⊥ = cc in absurd differs

-- a row that tells the same
pub told_row : (old new : Rows) (q : List ℕ) (row : Row) → TellSame old new → row_in old q ≡ Some row → (now : Row) × (row_in new q ≡ Some now) × (told_of now ≡ told_of row)
told_row old new q row told here = by (row_in new q) refl
  where
    by : (o : Option Row) → row_in new q ≡ o → (now : Row) × (row_in new q ≡ Some now) × (told_of now ≡ told_of row)
    by None is = none_is_some _ (told_of row) (sym (ap (option_map told_of) is) ∙ told q ∙ ap (option_map told_of) here)
    by (Some now) is = (now, is, (let both : Some (told_of now) ≡ Some (told_of row) = sym (ap (option_map told_of) is) ∙ told q ∙ ap (option_map told_of) here in cc))

pub told_back : (old new : Rows) → TellSame old new → TellSame new old
told_back old new told q = sym (told q)

pub told_then : (old mid new : Rows) → TellSame old mid → TellSame mid new → TellSame old new
told_then old mid new first second q = second q ∙ first q

pub used_still : (old new : Rows) (n : ℕ) → TellSame old new → IsUsed old n → IsUsed new n
used_still old new n told is =
    let now = told_row old new is.name is.row told is.here in
    record { name = is.name; row = now.0; here = now.1; same = ap (λ (row : Row). row.number) now.2 ∙ is.same }

-- whether a tenant holds a name, by its row
pub word_there : (row : Row) (v s : Bool) → is_some (word_by row v s) ≡ v || s
word_there row true true = refl
word_there row true false = refl
word_there row false true = refl
word_there row false false = refl

-- what it uses
pub seen_there : (row : Row) (v s : Bool) → worth seen_use (word_by row v s) ≡ cond v (row.length + OBJECT_USE) 0
seen_there row true true = refl
seen_there row true false = refl
seen_there row false true = refl
seen_there row false false = refl

pub use_there : (row : Row) (v s : Bool) → worth use_of_word (word_by row v s) ≡ cond (v || s) (row.length + OBJECT_USE) 0
use_there row true true = refl
use_there row true false = refl
use_there row false true = refl
use_there row false false = refl

-- ---- sums
-- one word becomes another, or comes or goes
pub sum_settled : (f : Word → ℕ) (m new : Words) (k : List ℕ) (o : Option Word) → ((q : List ℕ) → get new q ≡ cond (same_name k q) o (get m q)) → sum_by f (values new) + worth f (get m k) ≡ sum_by f (values m) + worth f o
sum_settled f m new k (Some v) at =
    ap (λ x. sum_by f (values x) + worth f (get m k)) (same_map name_total name_exact _ _ (λ q. at q ∙ ap (λ b. cond b (Some v) (get m q)) (sym (same_tests q k)) ∙ sym (get-insert name_total m k v q)))
    ∙ sum_insert name_total f m k v
sum_settled f m new k None at = by (get m k) refl
  where
    gone : get new k ≡ None
    gone = at k ∙ ap (λ b. cond b None (get m k)) (own_name k)

    by : (o : Option Word) → get m k ≡ o → sum_by f (values new) + worth f o ≡ sum_by f (values m) + 0
    by None none = ap (λ x. sum_by f (values x) + 0) (same_map name_total name_exact _ _ (λ q. at q ∙ nothing q (same_name k q) refl))
      where
        nothing : (q : List ℕ) (b : Bool) → same_name k q ≡ b → cond b None (get m q) ≡ get m q
        nothing q true same = sym (ap (get m) (sym (one_name k q same)) ∙ none)
        nothing q false apart = refl
    by (Some w) here =
        (let back : insert new k w ≡ m = same_map name_total name_exact _ _ (λ q. get-insert name_total new k w q ∙ ap (λ b. cond b (Some w) (get new q)) (same_tests q k) ∙ again q (same_name k q) refl) in
        let set = sum_insert name_total f new k w in
        let is = ap (λ x. sum_by f (values x)) back in
        let none = ap (worth f) gone in
        omega (arith, set, is, none))
      where
        again : (q : List ℕ) (b : Bool) → same_name k q ≡ b → cond b (Some w) (get new q) ≡ get m q
        again q true same = sym here ∙ ap (get m) (one_name k q same)
        again q false apart = at q ∙ ap (λ b. cond b None (get m q)) apart

-- the most that an object of 64 bits of length uses, and a little more
abbrev pub most : ℕ
most = 18446744073709551680

bounded_head : (f : Word → ℕ) (n : ℕ) (name : List ℕ) (o : Option Word) (rest : List (List ℕ × Word)) → worth f o ≤ most → sum_in f rest ≤ n * most → sum_in f (cons_option (option_map (λ y. (name, y)) o) rest) ≤ suc n * most
bounded_head f n name None rest one all = omega (arith, all)
bounded_head f n name (Some word) rest one all = (let head = sum_in-cons f (name, word) rest in omega (arith, head, one, all))

bounded : (f : Word → ℕ) (sets : Sets) (es : Rows) → ((at : ℕ) (p : List ℕ × Row) → slice_get es at ≡ Some p → worth f (word_in sets p.1) ≤ most) → sum_in f (chosen_in (λ _ row. word_in sets row) es) ≤ length es * most
bounded f sets [] each = omega arith
bounded f sets (e ∷ es) each = bounded_head f (length es) e.0 (word_in sets e.1) (chosen_in (λ _ row. word_in sets row) es) (each 0 e refl) (bounded f sets es (λ at p is. each (suc at) p is))

-- no sum is greater than this much for each row
pub sum_bounded : (f : Word → ℕ) (rows : Rows) (sets : Sets) → IsDistinct same_name (keys_of rows) → ((q : List ℕ) (row : Row) → row_in rows q ≡ Some row → worth f (word_in sets row) ≤ most)
    → sum_by f (values (words_of rows sets)) ≤ length rows * most
sum_bounded f rows sets distinct each =
    subst (λ n. n ≤ length rows * most)
    (sum_of_distinct name_total name_exact f (chosen_in (λ _ row. word_in sets row) rows) (distinct_chosen _ (λ _ row. word_in sets row) rows (distinct_by_order (keys_of rows) distinct)))
    (bounded f sets rows (λ at p is. each p.0 p.1 (row_at rows at p.0 p.1 distinct is)))
