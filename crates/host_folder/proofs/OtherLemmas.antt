-- Journals of other states: what their files are called, and what a listing of the folder of journals says of them.
use Rattle.std.proofs.Common.{append_assoc, inl, inr, ◌≡◌, ◌≢◌, ◌<◌, ◌+◌, ◌*◌, ◌||◌, ℕ, zero, suc, Bool, true, false, List, [], ◌∷◌, ◌++◌, Option, Some, None, Result, Ok, Err, IfOk, IsTrue, codes, cond, drop, is_some, length, length-append, map, nat_eq, nat_lt, not, option_map, refl, slice_index, sym, ◌∙◌, ap, ap₂, subst, take, arith, ◌/◌, ◌%◌}
use Rattle.std.proofs.Math.Seq.{take-append_seam, drop-append_seam}
use Rattle.std.proofs.lemmas.Bool.Decides.{Decides-eqb, nat_tests}
use Rattle.std.proofs.lemmas.List.Folds.{list_any-append}
use Rattle.std.specs.Cmp.Lexicographic.{pointwise}
use Rattle.std.specs.FinMap.{contains_key-keys, get, keys}
use Rattle.std.specs.Io.KnownBytes.{Consumes}
use Rattle.std.specs.List.{AllByRecursion, list_any}
use Rattle.std.specs.Ordering.{eq_by_cmp}
use Rattle.devices.specs.Device.{Files, Past, bytes_or_none, files_of, name_in_folder, names_in_folder}
use Rattle.devices.specs.Source.{bytes_behind}
use Rattle.devices.proofs.NameLemmas.{neither, same_text}
use Rattle.git_name.specs.Name.{IsName, name_cmp, name_in}
use Rattle.git_name.proofs.Names.{name_exact}
use Rattle.git_name.proofs.ReadingLemmas.{name_in-encode_lower, no_name}
use Rattle.loose_store.proofs.FilesLemmas.{tied}
use Rattle.hex.specs.Hex.{encode_lower, encode_with, lower_digits}
use Rattle.hex.proofs.HexLemmas.{length-encode_with}
use Rattle.host_folder.specs.Journal.{first_line, journal_called, journal_folder}
use Rattle.host_folder.specs.OtherJournals.{BeginsWith, HasNoOther, HasOther, IsNoOther, MayCount, OldCounts, IsOldPassed, IsPassed}

-- ---- what a journal's file is called
digits_length : (name : List ℕ) → IsName name → length (encode_lower name) ≡ 64
digits_length name is_name = length-encode_with lower_digits name ∙ ap (λ n. 2 * n) is_name.length

called_length : (name : List ℕ) → IsName name → length (journal_called name) ≡ 66
called_length name is_name = length-append (encode_lower name) (codes ".2") ∙ ap (λ n. n + 2) (digits_length name is_name)

pub called_digits : (text name : List ℕ) → IsName name → text ≡ journal_called name → take 64 text ≡ encode_lower name
called_digits text name is_name is =
    ap (take 64) is ∙ ap (λ n. take n (journal_called name)) (sym (digits_length name is_name)) ∙ take-append_seam (encode_lower name) (codes ".2")

pub called_end : (text name : List ℕ) → IsName name → text ≡ journal_called name → drop 64 text ≡ codes ".2"
called_end text name is_name is =
    ap (drop 64) is ∙ ap (λ n. drop n (journal_called name)) (sym (digits_length name is_name)) ∙ drop-append_seam (encode_lower name) (codes ".2")

-- equal texts do not differ
pub no_difference : (a b : List ℕ) → a ≡ b → true ≡ not (pointwise nat_eq a b) → ⊥
no_difference a b same differs =
    let never : true ≡ false = differs ∙ ap (λ (xs : List ℕ). not (pointwise nat_eq a xs)) (sym same) ∙ ap not (same_text a) in absurd (cc never)

-- texts that differ are two
pub are_two : (a b : List ℕ) → pointwise nat_eq a b ≡ false → a ≢ b
are_two a b differ same =
    let never : false ≡ true = sym differ ∙ ap (pointwise nat_eq a) (sym same) ∙ same_text a in absurd (cc never)

-- digits that a name writes are read as the name
pub name_again : (digits name : List ℕ) (found : Option (List ℕ)) → IsName name → found ≡ name_in digits → digits ≡ encode_lower name → found ≡ Some name
name_again digits name found is_name reads is = reads ∙ ap name_in is ∙ name_in-encode_lower name is_name

some_one : (a b : List ℕ) → Some a ≡ Some b → a ≡ b
some_one a b is = cc

-- what is read is a name
pub read_name : (text name : List ℕ) → Some name ≡ name_in text → IsName name
read_name text name is = record { length = by_length (nat_eq (length name) 32) refl; bytes = λ i. by_byte i (nat_lt (slice_index name i) 256) refl }
  where
    never : (IsName name → ⊥) → ⊥
    never none = absurd (cc (is ∙ no_name text (λ other other_name spelled. none (subst IsName (some_one other name (sym (is ∙ ap name_in spelled ∙ name_in-encode_lower other other_name))) other_name))))

    by_length : (b : Bool) → nat_eq (length name) 32 ≡ b → length name ≡ 32
    by_length true same = (Decides-eqb (length name) 32).0 same
    by_length false differs = absurd (never (λ it. absurd (cc (sym differs ∙ (Decides-eqb (length name) 32).1 it.length))))

    by_byte : (i : ℕ) (b : Bool) → nat_lt (slice_index name i) 256 ≡ b → slice_index name i < 256
    by_byte i true less = grind (arith, nat_tests)
    by_byte i false more = absurd (never (λ it. (let small = it.bytes i in let no_less : ⊥ = grind (arith, nat_tests) in no_less)))

-- ---- first lines
-- a first line has 75 bytes
pub line_length : (name : List ℕ) → IsName name → length (first_line name) ≡ 75
line_length name is_name =
    length-append (codes "journal 2 ") (encode_lower name ++ codes "\n") ∙ ap (λ n. 10 + n) (length-append (encode_lower name) (codes "\n") ∙ ap (λ n. n + 1) (digits_length name is_name))

line_digits : (name rest : List ℕ) → IsName name → take 64 (drop 10 (first_line name ++ rest)) ≡ encode_lower name
line_digits name rest is_name =
    ap (take 64) (append_assoc (encode_lower name) (codes "\n") rest) ∙ ap (λ n. take n (encode_lower name ++ (codes "\n" ++ rest))) (sym (digits_length name is_name)) ∙ take-append_seam (encode_lower name) (codes "\n" ++ rest)

same_line : (a b r s : List ℕ) → IsName a → IsName b → first_line a ++ r ≡ first_line b ++ s → a ≡ b
same_line a b r s a_name b_name is =
    let digits : encode_lower a ≡ encode_lower b = sym (line_digits a r a_name) ∙ ap (λ (xs : List ℕ). take 64 (drop 10 xs)) is ∙ line_digits b s b_name in
    some_one a b (sym (name_in-encode_lower a a_name) ∙ ap name_in digits ∙ name_in-encode_lower b b_name)

-- a file begins with one first line
pub other_line : (shown : Files) (path before other : List ℕ) → IsName before → IsName other → BeginsWith shown path (first_line before) → before ≢ other → BeginsWith shown path (first_line other) → ⊥
other_line shown path before other before_name other_name (r, first) differs (s, second) =
    differs (same_line before other r s before_name other_name (some_one (first_line before ++ r) (first_line other ++ s) (sym first ∙ second)))

-- ---- a file
pub there : (found : Option (List ℕ)) (n : ℕ) → Some n ≡ option_map length found → (text : List ℕ) × (found ≡ Some text)
there (Some text) n is = (text, refl)
there None n is = absurd (cc)

begins_by : (honest : Bool) (past : Past) (path line : List ℕ) (n : ℕ) (left : Option (List ℕ)) → IsTrue honest → Some n ≡ option_map length (get (files_of past) path) → Consumes (bytes_behind honest past path 0) left line → BeginsWith (files_of past) path line
begins_by true past path line n None is_honest is consumes = absurd consumes
begins_by true past path line n (Some rest) is_honest is consumes =
    let found = there (get (files_of past) path) n is in
    (rest, found.1 ∙ ap Some (sym (ap bytes_or_none found.1) ∙ consumes))
begins_by false past path line n left is_honest is consumes = absurd (cc)

-- a file whose first line was read begins with it
pub begins : (honest : Bool) (past : Past) (path line : List ℕ) (n : ℕ) (old left : Option (List ℕ)) → IsTrue honest → Some n ≡ option_map length (get (files_of past) path) → old ≡ bytes_behind honest past path 0 → Consumes old left line → BeginsWith (files_of past) path line
begins honest past path line n old left is_honest is behind consumes =
    begins_by honest past path line n left is_honest is (subst (λ (known : Option (List ℕ)). Consumes known left line) behind consumes)

-- ---- one name in the folder
module _ (shown : Files) (name called other : List ℕ) where
  -- what is called as a journal is that journal alone
  only_journal : called ≡ journal_called other → IsName other → ((some : List ℕ) → IsName some → called ≡ journal_called some → Some other ≡ Some some) → (other ≢ name → IsPassed shown other name) → IsNoOther shown name called
  only_journal is other_name named passed = record {
    journal = λ some is_name apart is. (let same : other ≡ some = cc (named some is_name is) in subst (λ (n : List ℕ). IsPassed shown n name) same (passed (λ e. apart (sym same ∙ e))));
    old = λ some is_name apart same. absurd (let short : 66 ≡ 64 = sym (called_length other other_name) ∙ ap (λ (xs : List ℕ). length xs) (sym is ∙ same) ∙ digits_length some is_name in omega (arith, short));
  }

  only_old : ((some : List ℕ) → IsName some → called ≡ journal_called some → ◌≡◌ {A = Option (List ℕ)} None (Some some)) → Some other ≡ name_in called → (other ≢ name → IsOldPassed shown other name) → IsNoOther shown name called
  only_old none reads passed = record {
    journal = λ some is_name apart is. absurd (cc (none some is_name is));
    old = λ some is_name apart is. (let same : other ≡ some = cc (name_again called some (Some other) is_name reads is) in subst (λ (n : List ℕ). IsOldPassed shown n name) same (passed (λ e. apart (sym same ∙ e))));
  }

  pub journal_told : {E : Type 0} (result : Result Bool E) → called ≡ journal_called other → IsName other → ((some : List ℕ) → IsName some → called ≡ journal_called some → Some other ≡ Some some)
      → IfOk result (λ any. any ≡ false → other ≢ name → IsPassed shown other name) → IfOk result (λ any. any ≡ false → IsNoOther shown name called)
  journal_told (Ok any) is other_name named passed = λ none. only_journal is other_name named (passed none)
  journal_told (Err error) is other_name named passed = tt

  pub old_told : {E : Type 0} (result : Result Bool E) → ((some : List ℕ) → IsName some → called ≡ journal_called some → ◌≡◌ {A = Option (List ℕ)} None (Some some)) → Some other ≡ name_in called
      → IfOk result (λ any. any ≡ false → other ≢ name → IsOldPassed shown other name) → IfOk result (λ any. any ≡ false → IsNoOther shown name called)
  old_told (Ok any) none reads passed = λ is. only_old none reads (passed is)
  old_told (Err error) none reads passed = tt

  pub journal_found : {E : Type 0} (result : Result Bool E) → IsName other → IfOk result (λ any. any ≡ true → (other ≢ name) × MayCount shown other name) → IfOk result (λ any. any ≡ true → HasOther shown name)
  journal_found (Ok any) other_name found = λ is. (let it = found is in (other, other_name, it.0, inl it.1))
  journal_found (Err error) other_name found = tt

  pub old_found : {E : Type 0} (result : Result Bool E) → IsName other → IfOk result (λ any. any ≡ true → (other ≢ name) × OldCounts shown other name) → IfOk result (λ any. any ≡ true → HasOther shown name)
  old_found (Ok any) other_name found = λ is. (let it = found is in (other, other_name, it.0, inr it.1))
  old_found (Err error) other_name found = tt

-- ---- no digit is a slash
digit_at : (ds : List ℕ) (k : ℕ) → list_any (λ b. nat_eq b 47) ds ≡ false → nat_eq (slice_index ds k) 47 ≡ false
digit_at [] k none = refl
digit_at (d ∷ ds) zero none = (neither (nat_eq d 47) (list_any (λ b. nat_eq b 47) ds) none).0
digit_at (d ∷ ds) (suc k) none = digit_at ds k (neither (nat_eq d 47) (list_any (λ b. nat_eq b 47) ds) none).1

pub digits_slashless : (name : List ℕ) → list_any (λ b. nat_eq b 47) (encode_lower name) ≡ false
unfolding encode_with
digits_slashless [] = refl
digits_slashless (x ∷ name) =
    ap₂ (λ a b. a || (b || list_any (λ b. nat_eq b 47) (encode_lower name))) (digit_at lower_digits (x / 16) refl) (digit_at lower_digits (x % 16) refl) ∙ digits_slashless name

pub called_slashless : (name : List ℕ) → list_any (λ b. nat_eq b 47) (journal_called name) ≡ false
called_slashless name =
    list_any-append (λ b. nat_eq b 47) (encode_lower name) (codes ".2") ∙ ap (λ b. b || false) (digits_slashless name)

-- a text is not another of another length
pub other_length : (text name : List ℕ) → (length text ≡ 66 → ⊥) → IsName name → text ≢ journal_called name
other_length text name differs is_name is = differs (ap (λ (xs : List ℕ). length xs) is ∙ called_length name is_name)

-- ---- a listing
pub none_left : {A : Type 0} (xs : List A) → length xs ≡ 0 → xs ≡ []
none_left [] none = refl
none_left (x ∷ xs) none = absurd (omega (arith, none))

name_of : (called : List ℕ) → list_any (λ b. nat_eq b 47) called ≡ false → name_in_folder journal_folder (journal_folder ++ called) ≡ called ∷ []
name_of called none = ap (λ (b : Bool). cond b [] (called ∷ [])) none

one_path : (a b : List ℕ) → eq_by_cmp name_cmp a b ≡ true → a ≡ b
one_path a b e = name_exact a b (tied (name_cmp a b) e)

there_is : (o : Option (List ℕ)) (bytes : List ℕ) → o ≡ Some bytes → is_some o ≡ true
there_is (Some b) bytes is = refl
there_is None bytes is = absurd (cc)

module _ (P : List ℕ → Type 0) where
  behind : (xs ys : List (List ℕ)) → AllByRecursion P (xs ++ ys) → AllByRecursion P ys
  behind [] ys all = all
  behind (x ∷ xs) ys all = behind xs ys all.1

  among : (paths : List (List ℕ)) (called : List ℕ) → list_any (λ b. nat_eq b 47) called ≡ false → AllByRecursion P (names_in_folder journal_folder paths) → list_any (eq_by_cmp name_cmp (journal_folder ++ called)) paths ≡ true → P called
  among [] called plain all has = absurd (cc)
  among (path ∷ paths) called plain all has =
      by (among paths called plain) (name_in_folder journal_folder path) refl (eq_by_cmp name_cmp (journal_folder ++ called) path) refl all has
    where
      by : (AllByRecursion P (names_in_folder journal_folder paths) → list_any (eq_by_cmp name_cmp (journal_folder ++ called)) paths ≡ true → P called) → (ns : List (List ℕ)) → name_in_folder journal_folder path ≡ ns
          → (b : Bool) → eq_by_cmp name_cmp (journal_folder ++ called) path ≡ b → AllByRecursion P (ns ++ names_in_folder journal_folder paths) → b || list_any (eq_by_cmp name_cmp (journal_folder ++ called)) paths ≡ true → P called
      by others ns names false test all found = others (behind ns (names_in_folder journal_folder paths) all) found
      by others ns names true test all found =
          (let its : called ∷ [] ≡ ns = sym (ap (name_in_folder journal_folder) (sym (one_path (journal_folder ++ called) path test)) ∙ name_of called plain) ∙ names in
          (subst (λ (ms : List (List ℕ)). AllByRecursion P (ms ++ names_in_folder journal_folder paths)) (sym its) all).0)

  pub at_end : {A : Type 0} (called : A → List ℕ) (left : List A) → length left ≡ 0 → AllByRecursion P (map called left)
  at_end {A = A} called left none = subst (λ (xs : List A). AllByRecursion P (map called xs)) (sym (none_left left none)) tt

  -- what holds of each name in the folder of journals holds of what a file there is called
  pub among_files : (shown : Files) (called text : List ℕ) → list_any (λ b. nat_eq b 47) called ≡ false → AllByRecursion P (names_in_folder journal_folder (keys shown)) → get shown (journal_folder ++ called) ≡ Some text → P called
  among_files shown called text plain all is =
      among (keys shown) called plain all (sym (contains_key-keys shown (journal_folder ++ called)) ∙ there_is (get shown (journal_folder ++ called)) text is)

-- if no name in the folder is that of a journal that counts, no journal counts
pub no_other : (shown : Files) (name : List ℕ) → AllByRecursion (IsNoOther shown name) (names_in_folder journal_folder (keys shown)) → HasNoOther shown name
no_other shown name all = record {
  journals = λ other is_name apart text is more. (among_files (IsNoOther shown name) shown (journal_called other) text (called_slashless other) all is).journal other is_name apart refl text is more;
  old = λ other is_name apart text is more. (among_files (IsNoOther shown name) shown (encode_lower other) text (digits_slashless other) all is).old other is_name apart refl text is more;
}
