-- Steps of one tenant's sets, one after another.
use Rattle.std.proofs.Common.{◌≡◌, ℕ, ◌+◌, ◌<◌, ◌≤◌, Bool, true, false, ◌||◌, cond, nat_lt, get_or, take, length, slice_index_or, List, Option, None, Some, refl, sym, ap, subst, ◌∙◌, arith}
use Rattle.std.specs.List.{IsDistinct}
use Rattle.std.specs.Map.{keys_of}
use Rattle.std.specs.Option.{option_and_then}
use Rattle.std.specs.FinMap.{contains_key, get, insert, get-insert, same_map}
use Rattle.std.proofs.lemmas.Bool.{ltb-false, ltb-true}
use Rattle.std.proofs.lemmas.List.{get_or-take, get_or_default, length-take-le}
use Rattle.git_name.specs.Same.{same_name}
use Rattle.git_name.proofs.Names.{name_exact, name_total}
use Rattle.number_links.specs.Numbers.{has_room}
use Rattle.object_table.specs.Clashes.{HasRow}
use Rattle.object_table.specs.Coming.{seen_over, seen_words}
use Rattle.object_table.specs.declared.entry.Entry.{Entry}
use Rattle.object_table.specs.declared.row.Row.{Row}
use Rattle.object_table.specs.declared.word.Word.{Word}
use Rattle.object_table.specs.Rows.{Rows, TableState, TellSame, count_in, one_if, row_in}
use Rattle.object_table.specs.Totals.{total_of, used_by}
use Rattle.object_table.specs.Views.{HasRoom, IsOne, Moves, SameSets, Sets, word_by, word_in, words_of}
use Rattle.object_table.specs.Words.{Words, staged_over, staged_words}
use Rattle.object_table.proofs.HolderLemmas.{same_tests}
use Rattle.object_table.proofs.ViewLemmas.{told_row, told_then, words_alike}

-- ---- the same sets
word_same : (one other : Sets) (o : Option Row) → SameSets one other → option_and_then (word_in other) o ≡ option_and_then (word_in one) o
word_same one other None same = refl
word_same one other (Some row) same = (λ i. word_by row (same.visible row.number i) (same.staged row.number i))

pub words_same : (rows : Rows) (one other : Sets) → IsDistinct same_name (keys_of rows) → SameSets one other → words_of rows other ≡ words_of rows one
words_same rows one other distinct same = words_alike rows rows one other distinct distinct (λ q. word_same one other (row_in rows q) same)

pub one_same : (rows : Rows) (one other : Sets) → IsDistinct same_name (keys_of rows) → SameSets one other → IsOne rows one → IsOne rows other
one_same rows one other distinct same is =
    let words = words_same rows one other distinct same in
    record {
      own = record {
        within = λ n held. is.own.within n (sym (λ i. same.visible n i || same.staged n i) ∙ held);
        visible = same.used ∙ is.own.visible ∙ ap used_by (sym words);
        both = same.total ∙ is.own.both ∙ ap total_of (sym words);
      };
      some = subst (λ w. (q : List ℕ) → one_if (contains_key w q) ≤ count_in rows q) (sym words) is.some;
      fits = subst (λ w. (q : List ℕ) → count_in rows q + 1 < 18446744073709551616 + one_if (contains_key w q)) (sym words) is.fits;
    }

pub moves_same : (table : TableState) (one other : Sets) → IsDistinct same_name (keys_of table.entries) → SameSets one other → Moves table table one other
moves_same table one other distinct same = record {
  told = λ q. refl;
  places = refl;
  counts = λ q. ap (λ w. count_in table.entries q + one_if (contains_key w q)) (sym (words_same table.entries one other distinct same));
}

-- ---- two steps
pub moves_then : (old mid new : TableState) (own some after : Sets) → Moves old mid own some → Moves mid new some after → Moves old new own after
moves_then old mid new own some after first second = record {
  told = told_then old.entries mid.entries new.entries first.told second.told;
  places = second.places ∙ first.places;
  counts = λ q. (let a = first.counts q in let b = second.counts q in omega (arith, a, b));
}

-- a row of the kind and length that come stays so
pub row_still : (old new : Rows) (entry : Entry) → TellSame old new → HasRow old entry → HasRow new entry
row_still old new entry told is =
    let now = told_row old new entry.name is.row told is.here in
    record { row = now.0; here = now.1; kinds = ap (λ (r : Row). r.kind) now.2 ∙ is.kinds; lengths = ap (λ (r : Row). r.length) now.2 ∙ is.lengths }

-- and its number has room still
pub room_still : (old new : Rows) (own after : Sets) (name : List ℕ) → TellSame old new → ((q : ℕ) → has_room after.visible q ≡ has_room own.visible q) → ((q : ℕ) → has_room after.staged q ≡ has_room own.staged q) → HasRoom old own name → HasRoom new after name
room_still old new own after name told room waits is row here =
    let before = told_row new old name row (λ q. sym (told q)) here in
    let number : row.number ≡ before.0.number = ap (λ (r : Row). r.number) (sym before.2) in
    let both = is before.0 before.1 in
    (room row.number ∙ ap (has_room own.visible) number ∙ both.0, waits row.number ∙ ap (has_room own.staged) number ∙ both.1)

-- ---- what a step makes of words
-- the word of one name is set
pub word_set : (words now : Words) (name : List ℕ) (word : Word) → ((q : List ℕ) → get now q ≡ cond (same_name name q) (Some word) (get words q)) → now ≡ insert words name word
word_set words now name word at = same_map name_total name_exact _ _ (λ q. at q ∙ ap (λ b. cond b (Some word) (get words q)) (sym (same_tests q name)) ∙ sym (get-insert name_total words name word q))

staged_by : (row : Row) (v s : Bool) → word_by row v true ≡ Some (staged_over row.kind row.length (word_by row v s))
staged_by row true true = refl
staged_by row true false = refl
staged_by row false true = refl
staged_by row false false = refl

pub staged_is : (words now : Words) (row : Row) (entry : Entry) (v s : Bool) → row.kind ≡ entry.kind → row.length ≡ entry.length → get words entry.name ≡ word_by row v s
    → ((q : List ℕ) → get now q ≡ cond (same_name entry.name q) (word_by row v true) (get words q)) → now ≡ staged_words entry.name entry.kind entry.length words
staged_is words now row entry v s kinds lengths before at =
    word_set words now entry.name (staged_over row.kind row.length (get words entry.name))
    (λ q. at q ∙ ap (λ o. cond (same_name entry.name q) o (get words q)) (staged_by row v s ∙ ap (λ o. Some (staged_over row.kind row.length o)) (sym before)))
    ∙ (λ i. insert words entry.name (staged_over (kinds i) (lengths i) (get words entry.name)))

seen_by : (row : Row) (v s : Bool) → word_by row true s ≡ Some (seen_over row.kind row.length (word_by row v s))
seen_by row true true = refl
seen_by row true false = refl
seen_by row false true = refl
seen_by row false false = refl

pub seen_is : (words now : Words) (row : Row) (entry : Entry) (v s : Bool) → row.kind ≡ entry.kind → row.length ≡ entry.length → get words entry.name ≡ word_by row v s
    → ((q : List ℕ) → get now q ≡ cond (same_name entry.name q) (word_by row true s) (get words q)) → now ≡ seen_words entry words
seen_is words now row entry v s kinds lengths before at =
    word_set words now entry.name (seen_over row.kind row.length (get words entry.name))
    (λ q. at q ∙ ap (λ o. cond (same_name entry.name q) o (get words q)) (seen_by row v s ∙ ap (λ o. Some (seen_over row.kind row.length o)) (sym before)))
    ∙ (λ i. insert words entry.name (seen_over (kinds i) (lengths i) (get words entry.name)))

-- the row of an entry's name
pub same_row : (rows : Rows) (entry : Entry) (row : Row) → HasRow rows entry → row_in rows entry.name ≡ Some row → (row.kind ≡ entry.kind) × (row.length ≡ entry.length)
same_row rows entry row is here =
    let both : Some row ≡ Some is.row = sym here ∙ is.here in
    let one : row ≡ is.row = cc in
    (ap (λ (r : Row). r.kind) one ∙ is.kinds, ap (λ (r : Row). r.length) one ∙ is.lengths)

-- numbers have room as they had
pub room_more : (rows : Rows) (own after : Sets) (name : List ℕ) → ((q : ℕ) → has_room own.visible q ≡ true → has_room after.visible q ≡ true) → ((q : ℕ) → has_room own.staged q ≡ true → has_room after.staged q ≡ true) → HasRoom rows own name → HasRoom rows after name
room_more rows own after name room waits is row here = (let both = is row here in (room row.number both.0, waits row.number both.1))

pub sets_then : (own some after : Sets) → SameSets own some → SameSets some after → SameSets own after
sets_then own some after first second = record {
  visible = λ n. second.visible n ∙ first.visible n;
  staged = λ n. second.staged n ∙ first.staged n;
  used = second.used ∙ first.used;
  total = second.total ∙ first.total;
}

-- of the first entries and one more
pub all_more : {X : Type 0} (P : X → Type 0) (xs : List X) (i : ℕ) (x : X) → i < length xs → x ≡ get_or xs i x → ((k : ℕ) (d : X) → k < length (take i xs) → P (slice_index_or (take i xs) k d)) → P x
    → (k : ℕ) (d : X) → k < length (take (i + 1) xs) → P (slice_index_or (take (i + 1) xs) k d)
all_more P xs i x inside is all one k d small = by (nat_lt k i) refl
  where
    front : length (take i xs) ≡ i
    front = length-take-le i xs (omega (arith, inside))

    longer : length (take (i + 1) xs) ≡ i + 1
    longer = length-take-le (i + 1) xs (omega (arith, inside))

    by : (b : Bool) → nat_lt k i ≡ b → P (slice_index_or (take (i + 1) xs) k d)
    by true before =
        (let low = ltb-true k i before in
        subst P (get_or-take i xs k d low ∙ sym (get_or-take (i + 1) xs k d (omega (arith, low)))) (all k d (omega (arith, low, front))))
    by false last =
        (let high = ltb-false k i last in
        let at : k ≡ i = omega (arith, high, small, longer) in
        subst P (is ∙ get_or_default xs i x d inside ∙ ap (λ j. get_or xs j d) (sym at) ∙ sym (get_or-take (i + 1) xs k d (omega (arith, small, longer)))) one)
