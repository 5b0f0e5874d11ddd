-- Which numbers the segments have that exist, and what lasts of all of them.
use Rattle.std.proofs.Common.{◌≡◌, ◌≢◌, ◌≤◌, ◌<◌, ◌^◌, ◌+◌, ◌-◌, ◌||◌, inl, inr, ℕ, zero, suc, Bool, true, false, List, [], ◌∷◌, ◌++◌, Option, Some, None, Result, Ok, Err, codes, cond, decimal, length, replicate, refl, sym, ◌∙◌, ap, subst, arith}
use Rattle.std.specs.Cmp.{eq_by_cmp_equiv}
use Rattle.std.specs.FinMap.{get, get-insert, get-remove, insert, keys, remove}
use Rattle.std.specs.List.{list_any}
use Rattle.std.specs.Ordering.{eq_by_cmp}
use Rattle.std.specs.Str.Parse.{AllDigits}
use Rattle.std.proofs.lemmas.Fmt.{decimal_is_IsNumeral, length-decimal-le}
use Rattle.devices.specs.Device.{Files, Past, Does, Added, Removed, files_of, name_in_folder, names_in_folder, with_effect}
use Rattle.git_name.specs.Name.{name_cmp}
use Rattle.git_name.proofs.Names.{name_total}
use Rattle.packed_store.specs.Lasting.{AllLast, AreLasting, IsLasting}
use Rattle.packed_store.specs.Opening.{AreNumbersWithin, listed}
use Rattle.packed_store.specs.Place.{AreWithin, IsNumbered, eight_digits, segment_path}
use Rattle.packed_store.specs.declared.place.TheConstants.{LAST_SEGMENT}
use Rattle.packed_store.proofs.GrowthLemmas.{one_path}
use Rattle.packed_store.proofs.LastingLemmas.{digits_slashless, listed_in, name_one, zeros_slashless}
use Rattle.packed_store.proofs.RemovalLemmas.{one_segment, value_of_eight}

-- ---- the name of a segment
zeros_digits : (k : ℕ) (ds : List ℕ) → AllDigits 10 ds → AllDigits 10 (replicate k 48 ++ ds)
zeros_digits zero ds all = all
zeros_digits (suc k) ds all = (omega arith, zeros_digits k ds all)

zeros_length : (k : ℕ) (ds : List ℕ) → length (replicate k 48 ++ ds) ≡ k + length ds
zeros_length zero ds = omega arith
zeros_length (suc k) ds = omega (arith, zeros_length k ds)

-- eight digits write the number
pub is_numbered : (n : ℕ) → 0 < n → n ≤ LAST_SEGMENT → IsNumbered (eight_digits n) n
is_numbered n some few =
    let small : n < 2 ^ 64 = omega (arith, few) in
    let short : length (decimal n) ≤ 8 = length-decimal-le 8 n (omega arith) (omega (arith, few)) small in (
      zeros_length (8 - length (decimal n)) (decimal n) ∙ omega (arith, short),
      zeros_digits (8 - length (decimal n)) (decimal n) (decimal_is_IsNumeral n small).0.1,
      value_of_eight n small,
      some,
    )

-- ---- a listing
behind : (names more : List (List ℕ)) (first last : ℕ) → AreNumbersWithin (names ++ more) first last → AreNumbersWithin more first last
behind [] more first last all = all
behind (name ∷ names) more first last all = behind names more first last all.1

within_in : (paths : List (List ℕ)) (n first last : ℕ) → 0 < n → n ≤ LAST_SEGMENT → AreNumbersWithin (names_in_folder (codes "segments/") paths) first last → list_any (eq_by_cmp name_cmp (segment_path n)) paths ≡ true → (first ≤ n) × (n ≤ last)
within_in [] n first last some few all has = absurd (cc)
within_in (path ∷ paths) n first last some few all has =
    by (within_in paths n first last some few) (name_in_folder (codes "segments/") path) refl (eq_by_cmp name_cmp (segment_path n) path) refl all has
  where
    small : n < 2 ^ 64
    small = omega (arith, few)

    by : (AreNumbersWithin (names_in_folder (codes "segments/") paths) first last → list_any (eq_by_cmp name_cmp (segment_path n)) paths ≡ true → (first ≤ n) × (n ≤ last)) → (ns : List (List ℕ)) → name_in_folder (codes "segments/") path ≡ ns
        → (b : Bool) → eq_by_cmp name_cmp (segment_path n) path ≡ b → AreNumbersWithin (ns ++ names_in_folder (codes "segments/") paths) first last → b || list_any (eq_by_cmp name_cmp (segment_path n)) paths ≡ true → (first ≤ n) × (n ≤ last)
    by others ns names false test within found = others (behind ns (names_in_folder (codes "segments/") paths) first last within) found
    by others ns names true test within found =
        (let its : eight_digits n ∷ [] ≡ ns = sym (ap (name_in_folder (codes "segments/")) (sym (one_path (segment_path n) path test)) ∙ name_one (codes "segments/") (eight_digits n) (zeros_slashless (8 - length (decimal n)) (decimal n) (digits_slashless (decimal n) (decimal_is_IsNumeral n small).0.1))) ∙ names in
        (subst (λ (ms : List (List ℕ)). AreNumbersWithin (ms ++ names_in_folder (codes "segments/") paths) first last) (sym its) within).0 n (is_numbered n some few))

-- what is listed is all that exists
pub within_listed : (files : Files) (first last : ℕ) → AreNumbersWithin (listed files) first last → AreWithin files first last
within_listed files first last all n bytes some few there = within_in (keys files) n first last some few all (listed_in files (segment_path n) bytes there)

-- ---- changes
pub within_as : (old new : Files) (first last : ℕ) → new ≡ old → AreWithin old first last → AreWithin new first last
within_as old new first last same all = subst (λ (files : Files). AreWithin files first last) (sym same) all

-- the last number may be a greater one
pub within_later : (files : Files) (first last later : ℕ) → last ≤ later → AreWithin files first last → AreWithin files first later
within_later files first last later less all n bytes some few there =
    (let its = all n bytes some few there in (its.0, omega (arith, its.1, less)))

added_at : (files : Files) (segment first n : ℕ) (path more : List ℕ) (bytes : List ℕ) → path ≡ segment_path segment → segment < 2 ^ 64 → first ≤ segment → AreWithin files first segment → 0 < n → n ≤ LAST_SEGMENT
    → get (insert files path more) (segment_path n) ≡ Some bytes → (first ≤ n) × (n ≤ segment)
added_at files segment first n path more bytes named small ahead all some few there =
    by (eq_by_cmp name_cmp (segment_path n) path) refl (sym (get-insert name_total files path more (segment_path n)) ∙ there)
  where
    by : (b : Bool) → eq_by_cmp name_cmp (segment_path n) path ≡ b → cond b (Some more) (get files (segment_path n)) ≡ Some bytes → (first ≤ n) × (n ≤ segment)
    by false test found = all n bytes some few found
    by true test found =
        (let is : n ≡ segment = one_segment n segment (omega (arith, few)) small (one_path (segment_path n) path test ∙ named) in (omega (arith, is, ahead), omega (arith, is)))

-- bytes were appended to the last segment
pub within_grown : {A E : Type 0} (segment first : ℕ) (path bytes : List ℕ) (old new : Past) (result : Result A E) → path ≡ segment_path segment → segment < 2 ^ 64 → first ≤ segment → Does (Added path bytes) old new result
    → AreWithin (files_of old) first segment → AreWithin (files_of new) first segment
within_grown segment first path bytes old new (Ok answer) named small ahead does all n b some few there =
    added_at (files_of old) segment first n path _ b named small ahead all some few (sym (ap (λ (p : Past). get (files_of p) (segment_path n)) does) ∙ there)
within_grown segment first path bytes old new (Err fault) named small ahead (inl same) all n b some few there = within_as (files_of old) (files_of new) first segment (ap files_of same) all n b some few there
within_grown segment first path bytes old new (Err fault) named small ahead (inr (part, (m, of), is)) all n b some few there =
    added_at (files_of old) segment first n path _ b named small ahead all some few
    (sym (ap (λ (p : Past). get (files_of p) (segment_path n)) (is ∙ ap (with_effect old) of)) ∙ there)

same_path : (p : List ℕ) → eq_by_cmp name_cmp p p ≡ true
same_path p = (eq_by_cmp_equiv name_total).refl p

left_there : (files : Files) (path q bytes : List ℕ) → get (remove files path) q ≡ Some bytes → (get files q ≡ Some bytes) × (q ≢ path)
left_there files path q bytes there = by (eq_by_cmp name_cmp q path) refl (sym (get-remove name_total files path q) ∙ there)
  where
    by : (b : Bool) → eq_by_cmp name_cmp q path ≡ b → cond b None (get files q) ≡ Some bytes → (get files q ≡ Some bytes) × (q ≢ path)
    by true test found = absurd (cc)
    by false test found = (found, λ same. let is : eq_by_cmp name_cmp q path ≡ true = subst (λ (p : List ℕ). eq_by_cmp name_cmp q p ≡ true) same (same_path q) in let never : ⊥ = cc in never)

-- a segment was removed, or not
pub within_less : {A E : Type 0} (path : List ℕ) (first last : ℕ) (old new : Past) (result : Result A E) → Does (Removed path) old new result → AreWithin (files_of old) first last → AreWithin (files_of new) first last
within_less path first last old new (Ok answer) does all n b some few there =
    all n b some few (left_there (files_of old) path (segment_path n) b (sym (ap (λ (p : Past). get (files_of p) (segment_path n)) does) ∙ there)).0
within_less path first last old new (Err fault) (inl same) all n b some few there = within_as (files_of old) (files_of new) first last (ap files_of same) all n b some few there
within_less path first last old new (Err fault) (inr (part, of, is)) all n b some few there =
    all n b some few (left_there (files_of old) path (segment_path n) b (sym (ap (λ (p : Past). get (files_of p) (segment_path n)) (is ∙ ap (with_effect old) of)) ∙ there)).0

-- the first segment was removed
pub within_behind : (first last later : ℕ) (path : List ℕ) (old new : Past) → new ≡ with_effect old (Removed path) → path ≡ segment_path first → later ≤ first + 1 → AreWithin (files_of old) first last → AreWithin (files_of new) later last
within_behind first last later path old new does named next all n b some few there =
    let its = left_there (files_of old) path (segment_path n) b (sym (ap (λ (p : Past). get (files_of p) (segment_path n)) does) ∙ there) in
    let was = all n b some few its.0 in
    let differs : n ≢ first = λ same. its.1 (ap segment_path same ∙ sym named) in
    (grind (arith, was.0, differs, next), was.1)

-- ---- what lasts
pub all_last : (past : Past) (first last : ℕ) → AreWithin (files_of past) first last → AreLasting past first last → AllLast past
all_last past first last within lasting n some few = by (get (files_of past) (segment_path n)) refl
  where
    by : (o : Option (List ℕ)) → get (files_of past) (segment_path n) ≡ o → IsLasting past n
    by None is = lasting.gone n few is
    by (Some bytes) is = (let its = within n bytes some few is in lasting.there n few its.0 its.1)
