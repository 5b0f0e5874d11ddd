-- What the objects use that come to a ledger, beside what it shows.
use Rattle.std.proofs.Common.{◌≡◌, ℕ, ◌+◌, List, [], ◌∷◌, ◌&&◌, ◌||◌, Bool, true, false, not, cond, Option, Some, None, refl, sym, ap, ◌∙◌, arith}
use Rattle.std.specs.Prelude.{sum_by, if◌then◌else◌}
use Rattle.std.specs.List.{AllByRecursion, IsDistinct}
use Rattle.std.specs.Option.{option_and_then, option_map_or, option_or}
use Rattle.std.specs.Ordering.{eq_by_cmp}
use Rattle.std.specs.FinMap.{get, get-insert, insert, same_map}
use Rattle.git_name.specs.Name.{name_cmp}
use Rattle.git_name.specs.Same.{is_listed, same_name}
use Rattle.git_name.proofs.HashMaps.{one_name, one_test}
use Rattle.git_name.proofs.MapLemmas.{get_joined}
use Rattle.git_name.proofs.Names.{name_total, name_exact}
use Rattle.object_table.specs.Adopted.{offered_words, shown_beside}
use Rattle.object_table.specs.Coming.{coming_at, coming_in, entry_under, use_of_entry}
use Rattle.object_table.specs.declared.entry.Entry.{Entry}
use Rattle.object_table.specs.declared.word.Standing.TheVariants.{Visible}
use Rattle.object_table.specs.declared.word.Word.{Word}
use Rattle.object_table.specs.Totals.{seen_use, total_of, use_of_word, used_by}
use Rattle.object_table.specs.Words.{Words, is_visible, kept_as, seen_word, words_that}
use Rattle.object_table.proofs.AdoptLemmas.{by_test, coming_more, offer, offered_at}
use Rattle.object_table.proofs.ChosenLemmas.{get_chosen}
use Rattle.object_table.proofs.SumLemmas.{same_sums, sum_insert, worth}

-- ---- at a name
-- the word that is shown, if there is one
abbrev pub showing : Option Word → Option Word
showing own = option_and_then (λ word. kept_as (is_visible word) word) own

-- what stands there beside what comes
abbrev pub beside : Bool → Option Word → Option Word → Option Word
beside comes shown own = option_or (showing own) (offer comes shown)

pub beside_at : (names : List ℕ → Bool) (shown own : Words) (q : List ℕ) → get (shown_beside (offered_words names shown) own) q ≡ beside (names q) (get shown q) (get own q)
beside_at names shown own q =
    get_joined name_total (words_that is_visible own) (offered_words names shown) q
    ∙ ap (λ o. option_or o (get (offered_words names shown) q)) (get_chosen name_total name_exact (λ _ word. kept_as (is_visible word) word) own q)
    ∙ ap (option_or (showing (get own q))) (offered_at names shown q)

-- the word of an entry that comes
abbrev word_of : Entry → Word
word_of entry = record { kind = entry.kind; length = entry.length; standing = Visible }

-- where nothing comes it is all one whether the name does
idle_beside : (name : List ℕ) (b c : Bool) (shown own : Option Word) → coming_at name shown own ≡ None → beside b shown own ≡ beside c shown own
idle_beside name b c None own is = refl
idle_beside name b c (Some shown) None is = by b c (is_visible shown) is
  where
    by : (b c v : Bool) → (if v && true then Some (entry_under name shown) else None) ≡ None → kept_as (b && v) (seen_word shown) ≡ kept_as (c && v) (seen_word shown)
    by b c true is = (let bad : ⊥ = cc in absurd bad)
    by true true false is = refl
    by true false false is = refl
    by false true false is = refl
    by false false false is = refl
idle_beside name b c (Some shown) (Some own) is = by b c (is_visible shown) (is_visible own) is
  where
    by : (b c v w : Bool) → (if v && not w then Some (entry_under name shown) else None) ≡ None
        → option_or (kept_as w own) (kept_as (b && v) (seen_word shown)) ≡ option_or (kept_as w own) (kept_as (c && v) (seen_word shown))
    by b c v true is = refl
    by b c true false is = (let bad : ⊥ = cc in absurd bad)
    by true true false false is = refl
    by true false false false is = refl
    by false true false false is = refl
    by false false false false is = refl

abbrev word_beside : Option Entry → Option Word → Option Word
word_beside None o = o
word_beside (Some entry) o = Some (word_of entry)

-- where something comes, it stands there once its name comes, and nothing before
come_beside : (name : List ℕ) (shown own : Option Word) → beside true shown own ≡ word_beside (coming_at name shown own) (beside false shown own)
come_beside name None None = refl
come_beside name None (Some own) = by (is_visible own)
  where
    by : (w : Bool) → option_or (kept_as w own) None ≡ option_or (kept_as w own) None
    by w = refl
come_beside name (Some shown) None = by (is_visible shown)
  where
    by : (v : Bool) → kept_as v (seen_word shown) ≡ word_beside (if v && true then Some (entry_under name shown) else None) None
    by true = refl
    by false = refl
come_beside name (Some shown) (Some own) = by (is_visible shown) (is_visible own)
  where
    by : (v w : Bool) → option_or (kept_as w own) (kept_as v (seen_word shown)) ≡ word_beside (if v && not w then Some (entry_under name shown) else None) (option_or (kept_as w own) None)
    by true true = refl
    by true false = refl
    by false true = refl
    by false false = refl

none_beside : (name : List ℕ) (shown own : Option Word) (entry : Entry) → coming_at name shown own ≡ Some entry → beside false shown own ≡ None
none_beside name None own entry is = (let bad : ⊥ = cc in absurd bad)
none_beside name (Some shown) None entry is = refl
none_beside name (Some shown) (Some own) entry is = by (is_visible shown) (is_visible own) is
  where
    by : (v w : Bool) → (if v && not w then Some (entry_under name shown) else None) ≡ Some entry → option_or (kept_as w own) None ≡ None
    by true true is = (let bad : ⊥ = cc in absurd bad)
    by true false is = refl
    by false true is = (let bad : ⊥ = cc in absurd bad)
    by false false is = (let bad : ⊥ = cc in absurd bad)

-- ---- name by name
abbrev All : Words → Words → List (List ℕ) → Words
All shown own names = shown_beside (offered_words (is_listed names) shown) own

none_listed : (name : List ℕ) (names : List (List ℕ)) → AllByRecursion (λ k. same_name name k ≡ false) names → is_listed names name ≡ false
none_listed name [] apart = refl
none_listed name (k ∷ names) apart = ap (λ b. b || is_listed names name) apart.0 ∙ none_listed name names apart.1

pass_all : (shown own : Words) (name : List ℕ) (names : List (List ℕ)) → coming_at name (get shown name) (get own name) ≡ None → All shown own (name ∷ names) ≡ All shown own names
pass_all shown own name names none = same_map name_total name_exact _ _ (λ q.
    beside_at (is_listed (name ∷ names)) shown own q
    ∙ by_test _ (same_name q name)
    (λ same. idle_beside q _ _ (get shown q) (get own q) (ap (λ k. coming_at k (get shown k) (get own k)) (one_name q name same) ∙ none))
    (λ apart. ap (λ b. beside (b || is_listed names q) (get shown q) (get own q)) apart)
    ∙ sym (beside_at (is_listed names) shown own q))

take_all : (shown own : Words) (name : List ℕ) (names : List (List ℕ)) (entry : Entry) → is_listed names name ≡ false → coming_at name (get shown name) (get own name) ≡ Some entry
    → All shown own (name ∷ names) ≡ insert (All shown own names) name (word_of entry)
take_all shown own name names entry fresh is = same_map name_total name_exact _ _ (λ q.
    beside_at (is_listed (name ∷ names)) shown own q ∙ by_test _ (same_name q name) (here q) (there q)
    ∙ sym (get-insert name_total (All shown own names) name (word_of entry) q))
  where
    here : (q : List ℕ) → same_name q name ≡ true → beside (same_name q name || is_listed names q) (get shown q) (get own q) ≡ cond (eq_by_cmp name_cmp q name) (Some (word_of entry)) (get (All shown own names) q)
    here q same =
        let at = one_name q name same in
        ap (λ b. beside (b || is_listed names q) (get shown q) (get own q)) same ∙ come_beside q (get shown q) (get own q)
        ∙ ap (λ o. word_beside o (beside false (get shown q) (get own q))) (ap (λ k. coming_at k (get shown k) (get own k)) at ∙ is)
        ∙ ap (λ b. cond b (Some (word_of entry)) (get (All shown own names) q)) (sym same ∙ one_test q name)

    there : (q : List ℕ) → same_name q name ≡ false → beside (same_name q name || is_listed names q) (get shown q) (get own q) ≡ cond (eq_by_cmp name_cmp q name) (Some (word_of entry)) (get (All shown own names) q)
    there q apart =
        ap (λ b. beside (b || is_listed names q) (get shown q) (get own q)) apart ∙ sym (beside_at (is_listed names) shown own q)
        ∙ ap (λ b. cond b (Some (word_of entry)) (get (All shown own names) q)) (sym apart ∙ one_test q name)

-- ---- sums
none_use : (shown own : Words) → used_by own ≡ total_of (All shown own [])
unfolding used_by total_of
none_use shown own = same_sums name_total name_exact seen_use use_of_word own (All shown own []) (λ q. by (get shown q) (get own q) ∙ ap (worth use_of_word) (sym (beside_at (is_listed []) shown own q)))
  where
    seen : (word : Word) (b : Bool) (rest : Option Word) → rest ≡ None → (if b then use_of_word word else 0) ≡ worth use_of_word (option_or (kept_as b word) rest)
    seen word true rest none = refl
    seen word false rest none = ap (worth use_of_word) (sym none)

    by : (shown own : Option Word) → worth seen_use own ≡ worth use_of_word (beside false shown own)
    by None None = refl
    by (Some shown) None = refl
    by None (Some own) = seen own (is_visible own) None refl
    by (Some shown) (Some own) = seen own (is_visible own) None refl

pass_use : (shown own : Words) (name : List ℕ) (names : List (List ℕ)) (o : Option Entry) → is_listed names name ≡ false → coming_at name (get shown name) (get own name) ≡ o
    → total_of (All shown own (name ∷ names)) ≡ total_of (All shown own names) + option_map_or use_of_entry o 0
unfolding total_of
pass_use shown own name names None fresh is = ap total_of (pass_all shown own name names is) ∙ nothing_more (total_of (All shown own names))
  where
    nothing_more : (n : ℕ) → n ≡ n + 0
    nothing_more n = omega arith
pass_use shown own name names (Some entry) fresh is =
    let now = ap total_of (take_all shown own name names entry fresh is) in
    let set = sum_insert name_total use_of_word (All shown own names) name (word_of entry) in
    let none = ap (worth use_of_word) (beside_at (is_listed names) shown own name ∙ ap (λ b. beside b (get shown name) (get own name)) fresh ∙ none_beside name (get shown name) (get own name) entry is) in
    omega (arith, now, set, none)

-- what the ledger shows, and what comes of names that stand once
pub room_is : (shown own : Words) (names : List (List ℕ)) → IsDistinct same_name names → used_by own + sum_by use_of_entry (coming_in shown own names) ≡ total_of (shown_beside (offered_words (is_listed names) shown) own)
unfolding IsDistinct
room_is shown own [] distinct = nothing_more (used_by own) ∙ none_use shown own
  where
    nothing_more : (n : ℕ) → n + 0 ≡ n
    nothing_more n = omega arith
room_is shown own (name ∷ names) distinct =
    let rest = room_is shown own names distinct.1 in
    let more = coming_more shown own name names in
    let step = pass_use shown own name names (coming_at name (get shown name) (get own name)) (none_listed name names distinct.0) refl in
    omega (arith, rest, more, step)
