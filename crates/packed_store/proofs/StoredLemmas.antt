-- What a survey takes in is in whole records.
use Rattle.std.proofs.Common.{◌≡◌, ℕ, ◌+◌, ◌-◌, ◌&&◌, ◌||◌, ◌<◌, ◌≤◌, Bool, true, false, List, [], ◌∷◌, ◌++◌, Option, Some, None, cond, length, take, drop, nat_le, nat_lt, refl, sym, ◌∙◌, ap, subst, append_assoc, length-append, length-drop, take-append-drop, arith}
use Rattle.std.proofs.lemmas.List.{length-take-le}
use Rattle.std.proofs.lemmas.Bool.Decides.{nat_tests}
use Rattle.std.proofs.lemmas.Cmp.{nat_list_eq_equiv}
use Rattle.std.proofs.Math.Seq.{drop-append-add, drop-append_seam, take-append_seam}
use Rattle.std.specs.Option.{option_and_then, option_map, option_or}
use Rattle.std.specs.Int.{to_be_bytes, w16, w32}
use Rattle.std.specs.Ordering.{eq_by_cmp}
use Rattle.std.specs.FinMap.{empty, get, get-empty, get-insert, get-remove, insert, remove}
use Rattle.sha2.specs.Sha256.{sha256}
use Rattle.sha2.proofs.Facts256.{length-sha256}
use Rattle.devices.specs.Device.{Files, bytes_or_none, part_of}
use Rattle.git_name.specs.Name.{name_cmp}
use Rattle.git_name.specs.Same.{same_name}
use Rattle.git_name.proofs.MapLemmas.{get_joined}
use Rattle.git_name.proofs.Names.{name_total, name_exact}
use Rattle.loose_store.proofs.FilesLemmas.{tied}
use Rattle.packed_store.specs.declared.place.Place.{Place}
use Rattle.packed_store.specs.declared.place.TheConstants.{SHORT, SHORT_TITLE}
use Rattle.packed_store.specs.declared.reading.Word.{Word}
use Rattle.packed_store.specs.declared.reading.Word.TheVariants as word
use Rattle.packed_store.specs.Entry.{Entry, File, IsEntry, Object, Removal, Settled, Short, Undone, before_own, kind_and_length, spelled, title_size, titled}
use Rattle.packed_store.specs.Place.{AreRecorded, Index, IsRecorded, IsThere, before, bytes_at, last_of, name_before, segment_of, segment_path}
use Rattle.packed_store.specs.Reading.{Begins, Tells, title_bytes}
use Rattle.packed_store.specs.Stored.{AllWritten, AreWritten, HasFile, IsPart, IsWritten, IsWrittenAt}
use Rattle.packed_store.specs.Survey.{Shown, noted, nothing, opened, undone, without}
use Rattle.packed_store.proofs.ReadingLemmas.{length_title, told_within}

-- the word is that of a file
abbrev pub IsFile : Word → Type 0
IsFile word.Object = Unit {0}
IsFile word.File = Unit {0}
IsFile word.Removal = ⊥
IsFile word.Settled = ⊥
IsFile word.Undone = ⊥

-- the bytes of a record, which are behind its title
pub own_at : (whole front tail name own : List ℕ) (kind at len : ℕ) → whole ≡ front ++ (titled kind name own ++ tail) → length front + title_size kind ≡ at → length name ≡ 32 → len ≡ length own → take len (drop at whole) ≡ own
own_at whole front tail name own kind at len is behind long counted =
    let head = title_bytes kind (length own) name in
    let parts : titled kind name own ++ tail ≡ head ++ (own ++ tail) = simp append_assoc in
    ap (λ (n : ℕ). take n (drop at whole)) counted ∙ ap (λ (b : List ℕ). take (length own) (drop at b)) is
    ∙ ap (λ (n : ℕ). take (length own) (drop n (front ++ (titled kind name own ++ tail)))) (sym behind)
    ∙ ap (take (length own)) (drop-append-add front (titled kind name own ++ tail) (title_size kind))
    ∙ ap (λ (b : List ℕ). take (length own) (drop (title_size kind) b)) parts
    ∙ ap (λ (n : ℕ). take (length own) (drop n (head ++ (own ++ tail)))) (sym (length_title kind (length own) name long))
    ∙ ap (take (length own)) (drop-append_seam head (own ++ tail)) ∙ take-append_seam own tail

-- what comes before them
before_is : (whole front tail name own : List ℕ) (kind at : ℕ) → whole ≡ front ++ (titled kind name own ++ tail) → length front + title_size kind ≡ at → length name ≡ 32 → take at whole ≡ front ++ title_bytes kind (length own) name
before_is whole front tail name own kind at is behind long =
    let head = title_bytes kind (length own) name in
    let parts : titled kind name own ++ tail ≡ head ++ (own ++ tail) = simp append_assoc in
    let size : length (front ++ head) ≡ at = length-append front head ∙ ap (λ (n : ℕ). length front + n) (length_title kind (length own) name long) ∙ behind in
    ap (take at) (is ∙ ap (λ (b : List ℕ). front ++ b) parts ∙ sym (append_assoc front head (own ++ tail)))
    ∙ ap (λ (n : ℕ). take n ((front ++ head) ++ (own ++ tail))) (sym size) ∙ take-append_seam (front ++ head) (own ++ tail)

-- the last bytes are what was added last
last_is : (count : ℕ) (xs ys : List ℕ) → length ys ≡ count → last_of count (xs ++ ys) ≡ ys
last_is count xs ys is =
    let size : length (xs ++ ys) - count ≡ length xs = omega (arith, is, length-append xs ys) in
    ap (λ (n : ℕ). drop n (xs ++ ys)) size ∙ drop-append_seam xs ys

first_of : (a b : Bool) → a ≡ true → (a || b) ≡ true
first_of a b is = ap (λ (c : Bool). c || b) is

second_of : (a b : Bool) → b ≡ true → (a || b) ≡ true
second_of true b is = refl
second_of false b is = is

both_of : (a b : Bool) → a ≡ true → b ≡ true → (a && b) ≡ true
both_of a b first second = ap (λ (c : Bool). c && b) first ∙ second

same_as : (xs ys : List ℕ) → xs ≡ ys → same_name xs ys ≡ true
same_as xs ys is = ap (λ (b : List ℕ). same_name b ys) is ∙ nat_list_eq_equiv.refl ys

-- a length and a name at the end of bytes
ends_so : (count : ℕ) (bytes front word name : List ℕ) → bytes ≡ front ++ (word ++ name) → length name ≡ 32 → length word + 32 ≡ count → same_name (last_of count bytes) (word ++ last_of 32 bytes) ≡ true
ends_so count bytes front word name is long size =
    let whole : last_of count bytes ≡ word ++ name = ap (last_of count) is ∙ last_is count front (word ++ name) (length-append word name ∙ ap (λ (n : ℕ). length word + n) long ∙ size) in
    let last : last_of 32 bytes ≡ name = ap (last_of 32) (is ∙ sym (append_assoc front word name)) ∙ last_is 32 (front ++ word) name long in
    same_as (last_of count bytes) (word ++ last_of 32 bytes) (whole ∙ ap (λ (b : List ℕ). word ++ b) (sym last))

-- and the name alone
name_is : (bytes front word name : List ℕ) → bytes ≡ front ++ (word ++ name) → length name ≡ 32 → last_of 32 bytes ≡ name
name_is bytes front word name is long = ap (last_of 32) (is ∙ sym (append_assoc front word name)) ∙ last_is 32 (front ++ word) name long

chosen : (a b : Bool) (xs ys : List ℕ) → a ≡ true → b ≡ true → xs ≡ ys → cond (a && b) (Some xs) None ≡ Some ys
chosen true true xs ys there e is = ap Some is
chosen true false xs ys there e is = let never : ⊥ = cc in absurd never
chosen false b xs ys there e is = let never : ⊥ = cc in absurd never

fits_in : (files : Files) (place : Place) → IsThere files place → nat_le (place.at + place.len) (length (segment_of files place.segment)) ≡ true
fits_in files place there = grind (arith, nat_tests)

-- a title with a letter
long_titled : (files : Files) (name : List ℕ) (place : Place) (front tail own : List ℕ) (kind : ℕ) → kind_and_length kind (length own) ≡ kind ∷ to_be_bytes w32 (length own)
    → segment_of files place.segment ≡ front ++ (titled kind name own ++ tail) → length front + title_size kind ≡ place.at → length name ≡ 32 → place.len ≡ length own → IsThere files place → IsRecorded files name place
unfolding name_before
long_titled files name place front tail own kind letter whole behind long counted there =
    let bytes = before files place in
    let word = to_be_bytes w32 place.len in
    let other = to_be_bytes w16 (SHORT + place.len) in
    let all : bytes ≡ (front ++ kind ∷ []) ++ (word ++ name) =
    before_is (segment_of files place.segment) front tail name own kind place.at whole behind long ∙ ap (λ (b : List ℕ). front ++ (b ++ name)) letter
    ∙ ap (λ (n : ℕ). front ++ ((kind ∷ to_be_bytes w32 n) ++ name)) (sym counted) ∙ sym (append_assoc front (kind ∷ []) (word ++ name)) in
    chosen _ _ (last_of 32 bytes) name (fits_in files place there) (first_of (same_name (last_of 36 bytes) (word ++ last_of 32 bytes)) (nat_lt place.len SHORT && same_name (last_of 34 bytes) (other ++ last_of 32 bytes)) (ends_so 36 bytes (front ++ kind ∷ []) word name all long refl))
    (name_is bytes (front ++ kind ∷ []) word name all long)

-- a short title
short_titled : (files : Files) (name : List ℕ) (place : Place) (front tail own : List ℕ)
    → segment_of files place.segment ≡ front ++ (titled 128 name own ++ tail) → length front + SHORT_TITLE ≡ place.at → length name ≡ 32 → length own < SHORT → place.len ≡ length own → IsThere files place → IsRecorded files name place
unfolding name_before
short_titled files name place front tail own whole behind long few counted there =
    let bytes = before files place in
    let word = to_be_bytes w16 (SHORT + place.len) in
    let other = to_be_bytes w32 place.len in
    let short : nat_lt place.len SHORT ≡ true = grind (arith, nat_tests) in
    let all : bytes ≡ front ++ (word ++ name) =
    before_is (segment_of files place.segment) front tail name own 128 place.at whole behind long ∙ ap (λ (n : ℕ). front ++ (to_be_bytes w16 (SHORT + n) ++ name)) (sym counted) in
    chosen _ _ (last_of 32 bytes) name (fits_in files place there) (second_of (same_name (last_of 36 bytes) (other ++ last_of 32 bytes)) (nat_lt place.len SHORT && same_name (last_of 34 bytes) (word ++ last_of 32 bytes)) (both_of _ _ short (ends_so 34 bytes front word name all long refl)))
    (name_is bytes front word name all long)

tail_in : (whole front bytes rest one other : List ℕ) → whole ≡ front ++ (bytes ++ rest) → bytes ≡ one ++ other → whole ≡ front ++ (one ++ (other ++ rest))
tail_in whole front bytes rest one other is begins = is ∙ ap (λ (b : List ℕ). front ++ (b ++ rest)) begins ∙ ap (λ (b : List ℕ). front ++ b) (append_assoc one other rest)

-- a record that is whole has the bytes of its title and its own
there_of : (files : Files) (place : Place) (title : ℕ) (front own rest : List ℕ) → segment_of files place.segment ≡ front ++ (own ++ rest) → length front + title ≡ place.at → title + place.len ≤ length own → IsThere files place
there_of files place title front own rest whole behind fits =
    subst (λ (bytes : List ℕ). place.at + place.len ≤ length bytes) (sym whole) (omega (arith, behind, fits, length-append front (own ++ rest), length-append own rest))

file_of : (files : Files) (place : Place) (front rest : List ℕ) (entry : Entry) (said : Word) (name : List ℕ) → segment_of files place.segment ≡ front ++ (spelled entry ++ rest) → length front + before_own entry ≡ place.at
    → IsEntry entry → Tells entry said name place.len → IsFile said → HasFile entry name (bytes_at files place)
file_of files place front rest (Object named own) said name whole behind right tells file =
    (sym tells.1, sym (own_at (segment_of files place.segment) front rest named own 111 place.at place.len whole behind (ap length right.1 ∙ length-sha256 own) tells.2))
file_of files place front rest (Short named own) said name whole behind right tells file =
    (sym tells.1, sym (own_at (segment_of files place.segment) front rest named own 128 place.at place.len whole behind (ap length right.1 ∙ length-sha256 own) tells.2))
file_of files place front rest (File named own) said name whole behind right tells file =
    let sum = sha256 (titled 102 named own) in
    (sym tells.1, sym (own_at (segment_of files place.segment) front (sum ++ rest) named own 102 place.at place.len (whole ∙ ap (λ (b : List ℕ). front ++ b) (append_assoc (titled 102 named own) sum rest)) behind right.1.length tells.2))
file_of files place front rest (Removal named) said name whole behind right tells file = absurd (subst IsFile tells.0 file)
file_of files place front rest Settled said name whole behind right tells file = absurd (subst IsFile tells.0 file)
file_of files place front rest Undone said name whole behind right tells file = absurd (subst IsFile tells.0 file)

-- a record of a file
pub begins_written : (files : Files) (place : Place) (start title : ℕ) (bytes : List ℕ) (said : Word) (name : List ℕ) (size : ℕ) → IsPart files place.segment start bytes → Begins bytes said name title place.len size
    → place.at ≡ start + title → IsFile said → IsWrittenAt files name place
begins_written files place start title bytes said name size part begins placed file =
    let rest = begins.rest ++ part.rest in
    let whole = tail_in _ part.front bytes part.rest (spelled begins.entry) begins.rest part.whole begins.whole in
    let behind : length part.front + before_own begins.entry ≡ place.at = omega (arith, part.behind, begins.titled, placed) in
    record {
      there = there_of files place (before_own begins.entry) part.front (spelled begins.entry) rest whole behind (told_within begins.entry said name place.len begins.right begins.tells);
      front = part.front;
      entry = begins.entry;
      rest = rest;
      whole = whole;
      behind = behind;
      right = begins.right;
      file = file_of files place part.front rest begins.entry said name whole behind begins.right begins.tells file;
    }

one_name : (a b : List ℕ) → eq_by_cmp name_cmp a b ≡ true → a ≡ b
one_name a b e = name_exact a b (tied (name_cmp a b) e)

set_written : (files : Files) (b : Bool) (o : Option Place) (q name : List ℕ) (place one : Place) → (b ≡ true → q ≡ name) → IsWrittenAt files name place → ((p : Place) → o ≡ Some p → IsWrittenAt files q p)
    → cond b (Some place) o ≡ Some one → IsWrittenAt files q one
set_written files true o q name place one same here others is =
    let set : place ≡ one = cc in
    subst (λ (p : Place). IsWrittenAt files q p) set (subst (λ (n : List ℕ). IsWrittenAt files n place) (sym (same refl)) here)
set_written files false o q name place one same here others is = others one is

removed_written : (files : Files) (b : Bool) (o : Option Place) (q : List ℕ) (one : Place) → ((p : Place) → o ≡ Some p → IsWrittenAt files q p) → cond b None o ≡ Some one → IsWrittenAt files q one
removed_written files true o q one others is = let never : ⊥ = cc in absurd never
removed_written files false o q one others is = others one is

are_written_set : (files : Files) (index : Index) (name : List ℕ) (place : Place) → AreWritten files index → IsWrittenAt files name place → AreWritten files (insert index name place)
are_written_set files index name place all here q one is =
    set_written files (eq_by_cmp name_cmp q name) (get index q) q name place one (one_name q name) here (all q) (sym (get-insert name_total index name place q) ∙ is)

are_written_removed : (files : Files) (index : Index) (name : List ℕ) → AreWritten files index → AreWritten files (remove index name)
are_written_removed files index name all q one is = removed_written files (eq_by_cmp name_cmp q name) (get index q) q one (all q) (sym (get-remove name_total index name q) ∙ is)

empty_written : (files : Files) → AreWritten files empty
empty_written files name place is = let never : ⊥ = cc (get-empty {X = Place} name_cmp name) in absurd never

pub nothing_written : (files : Files) → AllWritten files nothing
nothing_written files = record { live = empty_written files; pending = empty_written files }

without_written : (files : Files) (name : List ℕ) (shown : Shown) (o : Option Place) → get shown.live name ≡ o → AllWritten files shown → AllWritten files (without shown name o)
without_written files name shown (Some place) is all = record {
  live = are_written_removed files shown.live name all.live;
  pending = are_written_set files shown.pending name place all.pending (all.live name place is);
}
without_written files name shown None is all = all

either_written : (files : Files) (o p : Option Place) (q : List ℕ) (one : Place) → ((x : Place) → o ≡ Some x → IsWrittenAt files q x) → ((x : Place) → p ≡ Some x → IsWrittenAt files q x) → option_or o p ≡ Some one → IsWrittenAt files q one
either_written files (Some x) p q one first second is = first one is
either_written files None p q one first second is = second one is

-- what is opened is written
pub opened_written : (files : Files) (shown : Shown) → AllWritten files shown → AreWritten files (opened shown)
opened_written files shown all name one is =
    either_written files (get shown.live name) (get shown.pending name) name one (all.live name) (all.pending name) (sym (get_joined name_total shown.live shown.pending name) ∙ is)

-- one more record
pub noted_written : (files : Files) (said : Word) (name : List ℕ) (place : Place) (shown : Shown) → (IsFile said → IsWrittenAt files name place) → AllWritten files shown → AllWritten files (noted said name place shown)
noted_written files word.Object name place shown here all = record { live = are_written_set files shown.live name place all.live (here tt); pending = all.pending }
noted_written files word.File name place shown here all = record { live = are_written_set files shown.live name place all.live (here tt); pending = all.pending }
noted_written files word.Removal name place shown here all = without_written files name shown (get shown.live name) refl all
noted_written files word.Settled name place shown here all = record { live = all.live; pending = empty_written files }
noted_written files word.Undone name place shown here all = record { live = opened_written files shown all; pending = empty_written files }

-- removals that are undone
pub undone_written : (files : Files) (shown new : Shown) → new ≡ undone shown → AllWritten files shown → AllWritten files new
undone_written files shown new is all = subst (AllWritten files) (sym is) (record { live = opened_written files shown all; pending = empty_written files })

-- a part of a part
pub part_behind : (files : Files) (segment from : ℕ) (bytes : List ℕ) (at : ℕ) → at ≤ length bytes → IsPart files segment from bytes → IsPart files segment (from + at) (drop at bytes)
part_behind files segment from bytes at within part = record {
  front = part.front ++ take at bytes;
  rest = part.rest;
  whole =
      part.whole ∙ ap (λ (b : List ℕ). part.front ++ (b ++ part.rest)) (sym (take-append-drop at bytes))
      ∙ ap (λ (b : List ℕ). part.front ++ b) (append_assoc (take at bytes) (drop at bytes) part.rest) ∙ sym (append_assoc part.front (take at bytes) (drop at bytes ++ part.rest));
  behind = length-append part.front (take at bytes) ∙ ap (λ (n : ℕ). n + length (take at bytes)) part.behind ∙ ap (λ (n : ℕ). from + n) (length-take-le at bytes within);
}

-- bytes of a file, with those before and behind them
record Cut (whole : List ℕ) (at : ℕ) (bytes : List ℕ) : Type 0 where
  pub front : List ℕ
  pub rest : List ℕ
  pub all : whole ≡ front ++ (bytes ++ rest)
  pub behind : length front ≡ at

cut_of : (b : Bool) (whole bytes : List ℕ) (at len : ℕ) → (b ≡ true → at + len ≤ length whole) → Some bytes ≡ cond b (Some (take len (drop at whole))) None → Cut whole at bytes
cut_of true whole bytes at len fits is =
    let long = fits refl in
    let own : bytes ≡ take len (drop at whole) = cc in
    record {
      front = take at whole;
      rest = drop len (drop at whole);
      all =
          sym (take-append-drop at whole) ∙ ap (λ (b : List ℕ). take at whole ++ b) (sym (take-append-drop len (drop at whole)))
          ∙ ap (λ (b : List ℕ). take at whole ++ (b ++ drop len (drop at whole))) (sym own);
      behind = length-take-le at whole (omega (arith, long));
    }
cut_of false whole bytes at len fits is = let never : ⊥ = cc in absurd never

cut_in : (o : Option (List ℕ)) (bytes : List ℕ) (at len : ℕ) → Some bytes ≡ option_and_then (part_of at len) o → Cut (bytes_or_none o) at bytes
cut_in (Some whole) bytes at len is = cut_of (nat_le (at + len) (length whole)) whole bytes at len (λ e. grind (arith, nat_tests)) is
cut_in None bytes at len is = let never : ⊥ = cc in absurd never

-- what is read of a segment is a part of it
pub part_read : (files : Files) (segment : ℕ) (path bytes : List ℕ) (at len : ℕ) → path ≡ segment_path segment → Some bytes ≡ option_and_then (part_of at len) (get files path) → IsPart files segment at bytes
part_read files segment path bytes at len path_is is =
    let cut = cut_in (get files (segment_path segment)) bytes at len (is ∙ ap (λ (p : List ℕ). option_and_then (part_of at len) (get files p)) path_is) in
    record { front = cut.front; rest = cut.rest; whole = cut.all; behind = cut.behind }

-- a record around a place is one of a segment
pub one_written : (files : Files) (name : List ℕ) (place : Place) → IsWrittenAt files name place → IsWritten files name (bytes_at files place)
one_written files name place one = record { segment = place.segment; front = one.front; entry = one.entry; rest = one.rest; whole = one.whole; right = one.right; file = one.file }

length_at : (files : Files) (place : Place) → IsThere files place → place.len ≡ length (bytes_at files place)
length_at files place there =
    let rest = drop place.at (segment_of files place.segment) in
    let long : place.len ≤ length rest = omega (arith, there, length-drop place.at (segment_of files place.segment)) in
    sym (length-take-le place.len rest long)

titled_at : (files : Files) (name : List ℕ) (place : Place) (front rest : List ℕ) (entry : Entry) → segment_of files place.segment ≡ front ++ (spelled entry ++ rest) → length front + before_own entry ≡ place.at → IsEntry entry
    → HasFile entry name (bytes_at files place) → place.len ≡ length (bytes_at files place) → IsThere files place → IsRecorded files name place
titled_at files name place front rest (Object named own) whole behind right file counted there =
    subst (λ (n : List ℕ). IsRecorded files n place) file.0
    (long_titled files named place front rest own 111 refl whole behind (ap length right.1 ∙ length-sha256 own) (counted ∙ sym (ap length file.1)) there)
titled_at files name place front rest (Short named own) whole behind right file counted there =
    subst (λ (n : List ℕ). IsRecorded files n place) file.0
    (short_titled files named place front rest own whole behind (ap length right.1 ∙ length-sha256 own) right.0 (counted ∙ sym (ap length file.1)) there)
titled_at files name place front rest (File named own) whole behind right file counted there =
    let sum = sha256 (titled 102 named own) in
    subst (λ (n : List ℕ). IsRecorded files n place) file.0
    (long_titled files named place front (sum ++ rest) own 102 refl (whole ∙ ap (λ (b : List ℕ). front ++ b) (append_assoc (titled 102 named own) sum rest)) behind right.1.length (counted ∙ sym (ap length file.1)) there)
titled_at files name place front rest (Removal named) whole behind right file counted there = absurd file
titled_at files name place front rest Settled whole behind right file counted there = absurd file
titled_at files name place front rest Undone whole behind right file counted there = absurd file

-- a whole record around a place is recorded there
pub one_recorded : (files : Files) (name : List ℕ) (place : Place) → IsWrittenAt files name place → IsRecorded files name place
one_recorded files name place one = titled_at files name place one.front one.rest one.entry one.whole one.behind one.right one.file (length_at files place one.there) one.there

pub all_recorded : (files : Files) (index : Index) → AreWritten files index → AreRecorded files index
all_recorded files index all name place is = one_recorded files name place (all name place is)

value_in : (files : Files) (index : Index) (name bytes : List ℕ) (o : Option Place) → get index name ≡ o → AreWritten files index → option_map (bytes_at files) o ≡ Some bytes → IsWritten files name bytes
value_in files index name bytes (Some place) is all shows = let same : bytes_at files place ≡ bytes = cc in subst (IsWritten files name) same (one_written files name place (all name place is))
value_in files index name bytes None is all shows = let never : ⊥ = cc in absurd never

-- what a store shows is written
pub shown_written : (files : Files) (index : Index) (name bytes : List ℕ) → AreWritten files index → option_map (bytes_at files) (get index name) ≡ Some bytes → IsWritten files name bytes
shown_written files index name bytes all shows = value_in files index name bytes (get index name) refl all shows

counted_written : (b : Bool) (files : Files) (said : Word) (name : List ℕ) (place : Place) (shown : Shown) → (IsFile said → IsWrittenAt files name place) → AllWritten files shown → AllWritten files (cond b (noted said name place shown) shown)
counted_written true files said name place shown here all = noted_written files said name place shown here all
counted_written false files said name place shown here all = all

-- a record that counts, or does not
pub noted_or_not_written : (b : Bool) (files : Files) (said : Word) (name : List ℕ) (place : Place) (shown new : Shown) → new ≡ cond b (noted said name place shown) shown → (IsFile said → IsWrittenAt files name place) → AllWritten files shown → AllWritten files new
noted_or_not_written b files said name place shown new is here all = subst (AllWritten files) (sym is) (counted_written b files said name place shown here all)
