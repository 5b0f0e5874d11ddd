-- What comes to a ledger that is to see what another one shows.
use Rattle.std.proofs.Common.{◌≡◌, ℕ, ◌+◌, List, [], ◌∷◌, ◌&&◌, ◌||◌, Bool, true, false, not, cond, Option, Some, None, is_some, refl, sym, ap, ◌∙◌, arith}
use Rattle.std.specs.Prelude.{sum_by, if◌then◌else◌}
use Rattle.std.specs.List.{cons_option}
use Rattle.std.specs.Option.{option_and_then, option_map_or, option_or}
use Rattle.std.specs.Ordering.{eq_by_cmp}
use Rattle.std.specs.FinMap.{contains_key, get, get-insert, same_map}
use Rattle.std.proofs.lemmas.List.Sums.{sum_by-cons}
use Rattle.git_name.specs.declared.kind.Kind.{Kind}
use Rattle.git_name.specs.Name.{name_cmp}
use Rattle.git_name.specs.Same.{is_listed, same_name}
use Rattle.git_name.proofs.HashMaps.{one_name, one_test}
use Rattle.git_name.proofs.MapLemmas.{get_joined}
use Rattle.git_name.proofs.Names.{name_total, name_exact}
use Rattle.object_table.specs.Adopted.{adopted_words, offered_words, seen_if, seen_too}
use Rattle.object_table.specs.Coming.{all_seen_words, coming_at, coming_in, entry_under, seen_over, seen_words, use_of_entry}
use Rattle.object_table.specs.declared.entry.Entry.{Entry}
use Rattle.object_table.specs.declared.word.Standing.{Standing}
use Rattle.object_table.specs.declared.word.Standing.TheVariants.{Visible, Staged, Both}
use Rattle.object_table.specs.declared.word.Word.{Word}
use Rattle.object_table.specs.Words.{Words, is_visible, kept_as, seen_word, shows, with_standing}
use Rattle.object_table.proofs.ChosenLemmas.{get_chosen}

-- ---- what the objects use that come
coming_head : (entry : Option Entry) (entries : List Entry) → sum_by use_of_entry (cons_option entry entries) ≡ option_map_or use_of_entry entry 0 + sum_by use_of_entry entries
coming_head None entries = nothing_before (sum_by use_of_entry entries)
  where
    nothing_before : (n : ℕ) → n ≡ 0 + n
    nothing_before n = omega arith
coming_head (Some entry) entries = sum_by-cons use_of_entry entry entries

pub coming_more : (shown own : Words) (name : List ℕ) (names : List (List ℕ))
    → sum_by use_of_entry (coming_in shown own (name ∷ names)) ≡ option_map_or use_of_entry (coming_at name (get shown name) (get own name)) 0 + sum_by use_of_entry (coming_in shown own names)
coming_more shown own name names = coming_head (coming_at name (get shown name) (get own name)) (coming_in shown own names)

-- ---- one name
-- what the entry of a name makes of the word that is there, if the name comes
abbrev pub made_of : Option Entry → Bool → Option Word → Option Word
made_of None comes o = o
made_of (Some entry) comes o = cond comes (Some (seen_over entry.kind entry.length o)) o

seen_twice : (kind : Kind) (n : ℕ) (o : Option Word) → seen_over kind n (Some (seen_over kind n o)) ≡ seen_over kind n o
seen_twice kind n None = refl
seen_twice kind n (Some word) = by word.standing
  where
    by : (s : Standing) → with_standing word (seen_too (seen_too s)) ≡ with_standing word (seen_too s)
    by Visible = refl
    by Staged = refl
    by Both = refl

made_twice : (entry : Entry) (b : Bool) (o : Option Word) → made_of (Some entry) b (Some (seen_over entry.kind entry.length o)) ≡ Some (seen_over entry.kind entry.length o)
made_twice entry true o = ap Some (seen_twice entry.kind entry.length o)
made_twice entry false o = refl

named : (name : List ℕ) (shown own : Option Word) → option_map_or (λ (entry : Entry). entry.name) (coming_at name shown own) name ≡ name
named name None own = refl
named name (Some word) own = by (is_visible word && not (option_map_or is_visible own false))
  where
    by : (b : Bool) → option_map_or (λ (entry : Entry). entry.name) (if b then Some (entry_under name word) else None) name ≡ name
    by true = refl
    by false = refl

-- the entry of a name has that name
pub coming_name : (name : List ℕ) (shown own : Option Word) (entry : Entry) → coming_at name shown own ≡ Some entry → entry.name ≡ name
coming_name name shown own entry is = sym (ap (λ o. option_map_or (λ (entry : Entry). entry.name) o name) is) ∙ named name shown own

pub by_test : (G : Type 0) (b : Bool) → (b ≡ true → G) → (b ≡ false → G) → G
by_test G true f g = f refl
by_test G false f g = g refl

-- ---- the entries of names, one after another
abbrev Made : Words → Words → List (List ℕ) → List ℕ → Type 0
Made shown own names q = (words : Words) → get (all_seen_words (coming_in shown own names) words) q ≡ made_of (coming_at q (get shown q) (get own q)) (is_listed names q) (get words q)

none_made : (shown own : Words) (q : List ℕ) → Made shown own [] q
none_made shown own q words = by (coming_at q (get shown q) (get own q))
  where
    by : (o : Option Entry) → get words q ≡ made_of o false (get words q)
    by None = refl
    by (Some entry) = refl

-- the first name has no entry
pass_made : (shown own : Words) (name : List ℕ) (names : List (List ℕ)) (q : List ℕ) (words : Words) → coming_at name (get shown name) (get own name) ≡ None → Made shown own names q
    → get (all_seen_words (coming_in shown own names) words) q ≡ made_of (coming_at q (get shown q) (get own q)) (same_name q name || is_listed names q) (get words q)
pass_made shown own name names q words none rest = rest words ∙ by_test _ (same_name q name)
    (λ same. let nothing = ap (λ k. coming_at k (get shown k) (get own k)) (one_name q name same) ∙ none in
    ap (λ o. made_of o (is_listed names q) (get words q)) nothing ∙ sym (ap (λ o. made_of o (same_name q name || is_listed names q) (get words q)) nothing))
    (λ apart. ap (λ b. made_of (coming_at q (get shown q) (get own q)) (b || is_listed names q) (get words q)) (sym apart))

-- the first name has one
take_made : (shown own : Words) (name : List ℕ) (names : List (List ℕ)) (q : List ℕ) (words : Words) (entry : Entry) → coming_at name (get shown name) (get own name) ≡ Some entry → Made shown own names q
    → get (all_seen_words (coming_in shown own names) (seen_words entry words)) q ≡ made_of (coming_at q (get shown q) (get own q)) (same_name q name || is_listed names q) (get words q)
take_made shown own name names q words entry is rest = rest (seen_words entry words) ∙ by_test _ (same_name q name) here there
  where
    set : get (seen_words entry words) q ≡ cond (eq_by_cmp name_cmp q entry.name) (Some (seen_over entry.kind entry.length (get words entry.name))) (get words q)
    set = get-insert name_total words entry.name (seen_over entry.kind entry.length (get words entry.name)) q

    own_test : same_name q name ≡ eq_by_cmp name_cmp q entry.name
    own_test = one_test q name ∙ ap (eq_by_cmp name_cmp q) (sym (coming_name name (get shown name) (get own name) entry is))

    here : same_name q name ≡ true → made_of (coming_at q (get shown q) (get own q)) (is_listed names q) (get (seen_words entry words) q) ≡ made_of (coming_at q (get shown q) (get own q)) (same_name q name || is_listed names q) (get words q)
    here same =
        let at = one_name q name same in
        let it = ap (λ k. coming_at k (get shown k) (get own k)) at ∙ is in
        let seen = set ∙ ap (λ b. cond b (Some (seen_over entry.kind entry.length (get words entry.name))) (get words q)) (sym own_test ∙ same)
        ∙ ap (λ k. Some (seen_over entry.kind entry.length (get words k))) (coming_name name (get shown name) (get own name) entry is ∙ sym at) in
        (λ i. made_of (it i) (is_listed names q) (seen i)) ∙ made_twice entry (is_listed names q) (get words q) ∙ sym (λ i. made_of (it i) (same i || is_listed names q) (get words q))

    there : same_name q name ≡ false → made_of (coming_at q (get shown q) (get own q)) (is_listed names q) (get (seen_words entry words) q) ≡ made_of (coming_at q (get shown q) (get own q)) (same_name q name || is_listed names q) (get words q)
    there apart =
        let same = set ∙ ap (λ b. cond b (Some (seen_over entry.kind entry.length (get words entry.name))) (get words q)) (sym own_test ∙ apart) in
        ap (made_of (coming_at q (get shown q) (get own q)) (is_listed names q)) same ∙ ap (λ b. made_of (coming_at q (get shown q) (get own q)) (b || is_listed names q) (get words q)) (sym apart)

made_more : (shown own : Words) (name : List ℕ) (names : List (List ℕ)) (q : List ℕ) (words : Words) (o : Option Entry) → coming_at name (get shown name) (get own name) ≡ o → Made shown own names q
    → get (all_seen_words (cons_option o (coming_in shown own names)) words) q ≡ made_of (coming_at q (get shown q) (get own q)) (same_name q name || is_listed names q) (get words q)
made_more shown own name names q words None is rest = pass_made shown own name names q words is rest
made_more shown own name names q words (Some entry) is rest = take_made shown own name names q words entry is rest

all_made : (shown own : Words) (names : List (List ℕ)) (q : List ℕ) → Made shown own names q
all_made shown own [] q = none_made shown own q
all_made shown own (name ∷ names) q = λ words. made_more shown own name names q words (coming_at name (get shown name) (get own name)) refl (all_made shown own names q)

-- ---- all names at once
pub offered_at : (names : List ℕ → Bool) (shown : Words) (q : List ℕ) → get (offered_words names shown) q ≡ option_and_then (λ word. kept_as (names q && is_visible word) (seen_word word)) (get shown q)
offered_at names shown q = get_chosen name_total name_exact (λ name word. kept_as (names name && is_visible word) (seen_word word)) shown q

adopted_at : (offered words : Words) (q : List ℕ) → get (adopted_words offered words) q ≡ option_or (option_and_then (λ word. Some (seen_if (contains_key offered q) word)) (get words q)) (get offered q)
adopted_at offered words q =
    get_joined name_total _ offered q ∙ ap (λ o. option_or o (get offered q)) (get_chosen name_total name_exact (λ name word. Some (seen_if (contains_key offered name) word)) words q)

stays_seen : (word : Word) (s : Standing) → word.standing ≡ s → seen_too s ≡ s → with_standing word (seen_too word.standing) ≡ word
stays_seen word s is same = ap (with_standing word) (ap seen_too is ∙ same ∙ sym is)

-- what comes of a name, of the two words that there are of it
abbrev pub offer : Bool → Option Word → Option Word
offer comes shown = option_and_then (λ word. kept_as (comes && is_visible word) (seen_word word)) shown

made_is : (name : List ℕ) (comes : Bool) (shown own : Option Word)
    → made_of (coming_at name shown own) comes own ≡ option_or (option_and_then (λ word. Some (seen_if (is_some (offer comes shown)) word)) own) (offer comes shown)
made_is name comes None None = refl
made_is name comes None (Some own) = refl
made_is name comes (Some shown) None = by comes (is_visible shown)
  where
    by : (b v : Bool) → made_of (if v && not false then Some (entry_under name shown) else None) b None ≡ kept_as (b && v) (seen_word shown)
    by true true = refl
    by true false = refl
    by false true = refl
    by false false = refl
made_is name comes (Some shown) (Some own) = by comes (is_visible shown) own.standing refl
  where
    by : (b v : Bool) (s : Standing) → own.standing ≡ s
        → made_of (if v && not (shows s) then Some (entry_under name shown) else None) b (Some own) ≡ Some (seen_if (is_some (kept_as (b && v) (seen_word shown))) own)
    by true true Visible is = ap Some (sym (stays_seen own Visible is refl))
    by true true Staged is = refl
    by true true Both is = ap Some (sym (stays_seen own Both is refl))
    by true false s is = refl
    by false true Visible is = refl
    by false true Staged is = refl
    by false true Both is = refl
    by false false s is = refl

-- what becomes of a word, of the two that there are of its name
abbrev pub adopted : Bool → Option Word → Option Word → Option Word
adopted comes shown own = option_or (option_and_then (λ word. Some (seen_if (is_some (offer comes shown)) word)) own) (offer comes shown)

pub word_adopted : (names : List ℕ → Bool) (shown own : Words) (q : List ℕ) → get (adopted_words (offered_words names shown) own) q ≡ adopted (names q) (get shown q) (get own q)
word_adopted names shown own q =
    adopted_at (offered_words names shown) own q ∙ (λ i. option_or (option_and_then (λ word. Some (seen_if (is_some (offered_at names shown q i)) word)) (get own q)) (offered_at names shown q i))

-- the entries that come make of a ledger what is to come of it
pub adopted_is : (shown own : Words) (names : List (List ℕ)) → all_seen_words (coming_in shown own names) own ≡ adopted_words (offered_words (is_listed names) shown) own
adopted_is shown own names = same_map name_total name_exact _ _ (λ q.
    all_made shown own names q own ∙ made_is q (is_listed names q) (get shown q) (get own q) ∙ sym (word_adopted (is_listed names) shown own q))
