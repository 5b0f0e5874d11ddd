-- Which names in the folder of the segments are sure, and what lasts there.
use Rattle.std.proofs.Common.{◌≡◌, ◌≤◌, ◌<◌, ◌^◌, ◌+◌, ◌⊎◌, inl, inr, ◌||◌, ℕ, zero, suc, Bool, true, false, List, [], ◌∷◌, ◌++◌, ◌-◌, Option, Some, None, Result, Ok, Err, OnOk, codes, cond, decimal, is_some, max, length, length-append, nat_eq, nat_lt, replicate, refl, sym, ◌∙◌, ap, subst, take, drop, arith, option_map}
use Rattle.std.proofs.Math.Seq.{take-append_seam, drop-append_seam}
use Rattle.std.specs.Char.{digit_value}
use Rattle.std.specs.Cmp.Lexicographic.{pointwise}
use Rattle.std.specs.FinMap.{contains_key-keys, get, keys}
use Rattle.std.specs.List.{list_any}
use Rattle.std.specs.Ordering.{eq_by_cmp}
use Rattle.std.specs.Str.Parse.{AllDigits}
use Rattle.std.proofs.lemmas.Bool.Decides.{Decides-eqb, nat_tests}
use Rattle.std.proofs.lemmas.Fmt.{decimal_is_IsNumeral}
use Rattle.devices.proofs.NameLemmas.{one_text, same_text}
use Rattle.devices.specs.Crash.{File, HasNoSlash, IsIn, MayNames, Names, Same, Stands, added_to, bytes_after, names_after}
use Rattle.devices.specs.Device.{Files, Past, Does, Added, Removed, SyncedFolder, bytes_or_none, files_of, name_in_folder, names_in_folder, plain, with_effect}
use Rattle.git_name.specs.Name.{name_cmp}
use Rattle.packed_store.specs.Lasting.{AreLasting, AreSure, HasSegment, HasSureBytes, HasSureNames, IsLasting, IsUnfailed, Narrows}
use Rattle.packed_store.specs.Place.{eight_digits, segment_of, segment_path}
use Rattle.packed_store.specs.declared.place.TheConstants.{LAST_SEGMENT}
use Rattle.packed_store.proofs.GrowthLemmas as growth
use Rattle.packed_store.proofs.RemovalLemmas.{one_segment}
use Rattle.devices.proofs.SeenLemmas.{not_true, seen_bytes}
use Rattle.packed_store.proofs.SureLemmas.{all_narrowed, folder_unfailed, sure_grown, sure_taken, unfailed_grown, unfailed_taken}

-- ---- segments are in their folder
pub digits_slashless : (ds : List ℕ) → AllDigits 10 ds → HasNoSlash ds
digits_slashless [] all = tt
digits_slashless (c ∷ ds) (digit, all) = (λ is. (let slash : digit_value 47 < 10 = subst (λ (n : ℕ). digit_value n < 10) is digit in let never : ⊥ = omega (arith, slash) in never), digits_slashless ds all)

pub zeros_slashless : (k : ℕ) (ds : List ℕ) → HasNoSlash ds → HasNoSlash (replicate k 48 ++ ds)
zeros_slashless zero ds none = none
zeros_slashless (suc k) ds none = ((λ is. (let never : ⊥ = omega (arith, is) in never)), zeros_slashless k ds none)

pub segment_in : (n : ℕ) → n ≤ LAST_SEGMENT → IsIn (codes "segments/") (segment_path n)
segment_in n few =
    let small : n < 2 ^ 64 = omega (arith, few) in
    (eight_digits n, refl, zeros_slashless (8 - length (decimal n)) (decimal n) (digits_slashless (decimal n) (decimal_is_IsNumeral n small).0.1))

-- ---- a folder that lists no names
slash_none : (bytes : List ℕ) → HasNoSlash bytes → list_any (λ b. nat_eq b 47) bytes ≡ false
slash_none [] none = refl
slash_none (b ∷ bytes) (first, rest) =
    ap (λ (t : Bool). t || list_any (λ b. nat_eq b 47) bytes) (not_true (nat_eq b 47) (λ same. first ((Decides-eqb b 47).0 same))) ∙ slash_none bytes rest

pub name_one : (folder rest : List ℕ) → HasNoSlash rest → name_in_folder folder (folder ++ rest) ≡ rest ∷ []
name_one folder rest none =
    ap (λ (xs : List ℕ). cond (pointwise nat_eq xs folder) (plain (drop (length folder) (folder ++ rest))) []) (take-append_seam folder rest)
    ∙ ap (λ (b : Bool). cond b (plain (drop (length folder) (folder ++ rest))) []) (same_text folder)
    ∙ ap plain (drop-append_seam folder rest)
    ∙ ap (λ (b : Bool). cond b [] (rest ∷ [])) (slash_none rest none)

none_in : (folder : List ℕ) (paths : List (List ℕ)) (q : List ℕ) → IsIn folder q → names_in_folder folder paths ≡ [] → list_any (eq_by_cmp name_cmp q) paths ≡ true → ⊥
none_in folder [] q is_in none has = absurd (cc)
none_in folder (path ∷ paths) q (rest, is, plain_rest) none has =
    by (none_in folder paths q (rest, is, plain_rest)) (name_in_folder folder path) refl (eq_by_cmp name_cmp q path) refl none has
  where
    by : (names_in_folder folder paths ≡ [] → list_any (eq_by_cmp name_cmp q) paths ≡ true → ⊥) → (ns : List (List ℕ)) → name_in_folder folder path ≡ ns → (b : Bool) → eq_by_cmp name_cmp q path ≡ b → ns ++ names_in_folder folder paths ≡ [] → b || list_any (eq_by_cmp name_cmp q) paths ≡ true → ⊥
    by others (n ∷ ns) names b test empty found = absurd (cc)
    by others [] names true test empty found = (let its : name_in_folder folder path ≡ rest ∷ [] = ap (name_in_folder folder) (sym (growth.one_path q path test) ∙ is) ∙ name_one folder rest plain_rest in absurd (cc (sym names ∙ its)))
    by others [] names false test empty found = others empty found

some_there : (o : Option (List ℕ)) (bytes : List ℕ) → o ≡ Some bytes → is_some o ≡ true
some_there (Some b) bytes is = refl
some_there None bytes is = absurd (cc)

pub listed_in : (files : Files) (q bytes : List ℕ) → get files q ≡ Some bytes → list_any (eq_by_cmp name_cmp q) (keys files) ≡ true
listed_in files q bytes is = sym (contains_key-keys files q) ∙ some_there (get files q) bytes is

-- ---- what a read shows
-- a file that a read shows is seen
pub is_seen : (past : Past) (q bytes : List ℕ) → get (files_of past) q ≡ Some bytes → (f : File) × (names_after past.base past.effects q ≡ Some f)
is_seen past q bytes is = by (names_after past.base past.effects q) (seen_bytes past.base past.effects q ∙ is)
  where
    by : (o : Option File) → option_map (bytes_after past.base past.effects) o ≡ Some bytes → (f : File) × (o ≡ Some f)
    by None never = absurd (cc)
    by (Some f) found = (f, refl)

-- one with bytes is
pub with_bytes_seen : (past : Past) (q : List ℕ) → 0 < length (bytes_or_none (get (files_of past) q)) → (f : File) × (names_after past.base past.effects q ≡ Some f)
with_bytes_seen past q some = by (get (files_of past) q) refl some
  where
    by : (o : Option (List ℕ)) → get (files_of past) q ≡ o → 0 < length (bytes_or_none o) → (f : File) × (names_after past.base past.effects q ≡ Some f)
    by None is more = absurd (omega (arith, more))
    by (Some bytes) is more = is_seen past q bytes is

-- one that it does not show is not
pub not_seen : (past : Past) (q : List ℕ) → get (files_of past) q ≡ None → names_after past.base past.effects q ≡ None
not_seen past q none = by (names_after past.base past.effects q) (seen_bytes past.base past.effects q ∙ none)
  where
    by : (o : Option File) → option_map (bytes_after past.base past.effects) o ≡ None → o ≡ None
    by None is = refl
    by (Some f) never = absurd (cc)

some_none : {P A : Type 0} (a : A) (o : Option A) → o ≡ Some a → o ≡ None → P
some_none a o some none = absurd (cc)

-- a file that is not there has all bytes that it has
pub none_sure : (past : Past) (q : List ℕ) → get (files_of past) q ≡ None → HasSureBytes past q
none_sure past q none f at_path = some_none f (names_after past.base past.effects q) at_path (not_seen past q none)

-- ---- names
pub names_narrowed : (folder : List ℕ) (old new : Past) → Narrows old new → HasSureNames folder old → HasSureNames folder new
names_narrowed folder old new less sure there f is_in at_path m may q q_in =
    sure there f is_in (ap (λ (n : Names). n there) (sym less.names) ∙ at_path) m (less.may_names m may) q q_in ∙ ap (λ (n : Names). n q) (sym less.names)

-- a folder that was synced
pub names_synced : (folder : List ℕ) (old new : Past) → new ≡ with_effect old (SyncedFolder folder) → IsUnfailed new → HasSureNames folder new
names_synced folder old new is none =
    subst (HasSureNames folder) (sym is) (λ there f is_in at_path m may q q_in. may.1 (folder_unfailed old.effects folder (subst IsUnfailed is none)) q q_in)

-- one in which no file is
pub names_none : (folder : List ℕ) (past : Past) → names_in_folder folder (keys (files_of past)) ≡ [] → HasSureNames folder past
names_none folder past none there f is_in at_path = absurd (none_in folder (keys (files_of past)) there is_in none (listed_in (files_of past) there (bytes_after past.base past.effects f) shown))
  where
    shown : get (files_of past) there ≡ Some (bytes_after past.base past.effects f)
    shown = sym (seen_bytes past.base past.effects there) ∙ ap (option_map (bytes_after past.base past.effects)) at_path

-- a sync of a folder that did not fail
pub folder_sure : {A E : Type 0} (folder : List ℕ) (old new : Past) (result : Result A E) → Does (SyncedFolder folder) old new result → OnOk result (IsUnfailed new → HasSureNames folder new)
folder_sure folder old new (Ok answer) does = λ none. names_synced folder old new does none
folder_sure folder old new (Err fault) does = tt

-- one of a folder that was missing, and has no files
pub missing_sure : {A E : Type 0} (folder : List ℕ) (mid new : Past) (result : Result A E) → new ≡ mid → OnOk result (names_in_folder folder (keys (files_of mid)) ≡ []) → OnOk result (IsUnfailed new → HasSureNames folder new)
missing_sure folder mid new (Ok answer) then none = λ unfailed. subst (HasSureNames folder) (sym then) (names_none folder mid none)
missing_sure folder mid new (Err fault) then none = tt

-- bytes were appended to a file that exists
names_added : (folder : List ℕ) (old : Past) (path bytes : List ℕ) (g : File) → names_after old.base old.effects path ≡ Some g → HasSureNames folder old → HasSureNames folder (with_effect old (Added path bytes))
names_added folder old path bytes g is sure there f is_in at_path m (d, was, either) q q_in =
    left either ∙ sure there f is_in (sym (seen there) ∙ at_path) d was q q_in ∙ sym (seen q)
  where
    seen : (p : List ℕ) → names_after old.base (Added path bytes ∷ old.effects) p ≡ names_after old.base old.effects p
    seen p = ap (λ (o : Option File). added_to (names_after old.base old.effects) path (suc (length old.effects)) o p) is

    left : (Same m d ⊎ Same m (added_to d path (suc (length old.effects)) (names_after old.base old.effects path))) → m q ≡ d q
    left (inl same) = same q
    left (inr new) = new q ∙ ap (λ (o : Option File). added_to d path (suc (length old.effects)) o q) is

pub names_grown : {A E : Type 0} (folder path bytes : List ℕ) (old new : Past) (result : Result A E) → Does (Added path bytes) old new result → 0 < length (bytes_or_none (get (files_of old) path)) → HasSureNames folder old → HasSureNames folder new
names_grown folder path bytes old new (Ok answer) does some sure =
    (let its = with_bytes_seen old path some in subst (HasSureNames folder) (sym does) (names_added folder old path bytes its.0 its.1 sure))
names_grown folder path bytes old new (Err fault) (inl same) some sure = subst (HasSureNames folder) (sym same) sure
names_grown folder path bytes old new (Err fault) (inr (part, (n, of), is)) some sure =
    (let its = with_bytes_seen old path some in subst (HasSureNames folder) (sym (is ∙ ap (with_effect old) of)) (names_added folder old path (take n bytes) its.0 its.1 sure))

-- ---- more segments
-- what is sure up to one segment, and from there on
pub sure_joined : (past : Past) (first mid end : ℕ) → AreSure past first mid → AreSure past mid end → AreSure past first end
sure_joined past first mid end low high n from below = by (nat_lt n mid) refl
  where
    by : (b : Bool) → nat_lt n mid ≡ b → HasSureBytes past (segment_path n)
    by true is = low n from (grind (arith, nat_tests))
    by false is = high n (grind (arith, nat_tests)) below

pub sure_one : (past : Past) (n : ℕ) → HasSureBytes past (segment_path n) → AreSure past n (n + 1)
sure_one past n sure m from below = (let is : n ≡ m = omega (arith, from, below) in subst (λ (k : ℕ). HasSureBytes past (segment_path k)) is sure)

pub sure_none : (past : Past) (first end : ℕ) → end ≤ first → AreSure past first end
sure_none past first end none n from below = absurd (omega (arith, none, from, below))

neither : (a b : Bool) → (a || b) ≡ false → (a ≡ false) × (b ≡ false)
neither false b e = (refl, e)
neither true b e = absurd (cc)

-- bytes were appended to a segment that has some, or else the names are marked
pub names_appended : {A E : Type 0} (segment end : ℕ) (is_new : Bool) (path bytes : List ℕ) (old new : Past) (result : Result A E) → path ≡ segment_path segment → Does (Added path bytes) old new result
    → length (segment_of (files_of old) segment) ≡ end → (is_new || nat_eq end 0) ≡ false → (is_new ≡ false → IsUnfailed old → HasSureNames (codes "segments/") old) → IsUnfailed new → HasSureNames (codes "segments/") new
names_appended segment end is_new path bytes old new result named does counted marked sure none =
    names_grown (codes "segments/") path bytes old new result does some (sure (neither is_new (nat_eq end 0) marked).0 (unfailed_grown path bytes old new result does none))
  where
    more : 0 < end
    more = (let differs = (neither is_new (nat_eq end 0) marked).1 in grind (arith, nat_tests))

    some : 0 < length (bytes_or_none (get (files_of old) path))
    some = subst (λ (q : List ℕ). 0 < length (bytes_or_none (get (files_of old) q))) (sym named) (subst (λ (n : ℕ). 0 < n) (sym counted) more)

-- how many bytes a segment has to which some were appended
pub end_grown : (segment count end : ℕ) (path bytes : List ℕ) (old new : Files) → path ≡ segment_path segment → bytes_or_none (get new path) ≡ bytes_or_none (get old path) ++ bytes → length (segment_of old segment) ≡ count
    → end ≡ count + length bytes → length (segment_of new segment) ≡ end
end_grown segment count end path bytes old new named grown counted is =
    ap (λ (q : List ℕ). length (bytes_or_none (get new q))) (sym named) ∙ ap length grown ∙ length-append (bytes_or_none (get old path)) bytes
    ∙ ap (λ (q : List ℕ). length (bytes_or_none (get old q)) + length bytes) named ∙ ap (λ (n : ℕ). n + length bytes) counted ∙ sym is

-- what is sure of a past is sure of the same one
pub all_as : (old new : Past) (first end : ℕ) → new ≡ old → (IsUnfailed old → AreSure old first end) → IsUnfailed new → AreSure new first end
all_as old new first end same sure none = subst (λ (p : Past). AreSure p first end) (sym same) (sure (subst IsUnfailed same none))

pub names_as : (folder : List ℕ) (old new : Past) → new ≡ old → (IsUnfailed old → HasSureNames folder old) → IsUnfailed new → HasSureNames folder new
names_as folder old new same sure none = subst (HasSureNames folder) (sym same) (sure (subst IsUnfailed same none))

-- or of one of which less may be left
pub all_after : (old new : Past) (first end : ℕ) → Narrows old new → (IsUnfailed old → AreSure old first end) → IsUnfailed new → AreSure new first end
all_after old new first end less sure none = all_narrowed old new first end less (sure (less.unfailed none))

pub names_later : (folder : List ℕ) (old new : Past) → Narrows old new → (IsUnfailed old → HasSureNames folder old) → IsUnfailed new → HasSureNames folder new
names_later folder old new less sure none = names_narrowed folder old new less (sure (less.unfailed none))

-- segments that were sure, and those that were synced
pub all_synced : (old new : Past) (first mid from end : ℕ) → 0 < first → from ≡ max mid 1 → Narrows old new → (IsUnfailed old → AreSure old first mid) → (IsUnfailed new → AreSure new from end) → IsUnfailed new → AreSure new first end
all_synced old new first mid from end numbered is less sure synced none =
    sure_joined new first from end (λ n low below. all_after old new first mid less sure none n low (omega (arith, numbered, low, below, is))) (synced none)

pub fewer_sure : (past : Past) (first end : ℕ) → AreSure past first (end + 1) → AreSure past first end
fewer_sure past first end sure n from below = sure n from (omega (arith, below))

-- bytes were appended to a later segment
pub all_grown : {A E : Type 0} (segment first end : ℕ) (path bytes : List ℕ) (old new : Past) (result : Result A E) → path ≡ segment_path segment → segment < 2 ^ 64 → end ≤ segment → Does (Added path bytes) old new result
    → (IsUnfailed old → AreSure old first end) → IsUnfailed new → AreSure new first end
all_grown segment first end path bytes old new result named small late does sure none n from below =
    sure_grown path bytes (segment_path n) old new result does (not_true _ (λ same. other (one_text path (segment_path n) same))) (sure (unfailed_grown path bytes old new result does none) n from below)
  where
    other : path ≡ segment_path n → ⊥
    other same =
        let fits : n < 2 ^ 64 = omega (arith, below, late, small) in
        let is : segment ≡ n = one_segment segment n small fits (sym named ∙ same) in
        let never : ⊥ = omega (arith, is, below, late) in
        never

-- a segment was removed
pub all_taken : {A E : Type 0} (first end later : ℕ) (path : List ℕ) (old new : Past) (result : Result A E) → Does (Removed path) old new result → first ≤ later → (IsUnfailed old → AreSure old first end) → IsUnfailed new → AreSure new later end
all_taken first end later path old new result does low sure none n from below =
    sure_taken path (segment_path n) old new result does (sure (unfailed_taken path old new result does none) n (omega (arith, low, from)) below)

-- ---- what lasts
lasting : (past : Past) (n : ℕ) → HasSureBytes past (segment_path n) → ((m : Names) → MayNames past.base past.effects m → m (segment_path n) ≡ names_after past.base past.effects (segment_path n)) → IsLasting past n
lasting past n sure named m may found stands =
    by (names_after past.base past.effects (segment_path n)) refl (subst (λ (o : Option File). Stands past.base past.effects o found) (named m may) stands) ∙ seen_bytes past.base past.effects (segment_path n)
  where
    by : (o : Option File) → names_after past.base past.effects (segment_path n) ≡ o → Stands past.base past.effects o found → found ≡ option_map (bytes_after past.base past.effects) (names_after past.base past.effects (segment_path n))
    by None is none = none ∙ sym (ap (option_map (bytes_after past.base past.effects)) is)
    by (Some f) is (x, has, left) = has ∙ ap (λ (b : List ℕ). Some b) (sure f is x left) ∙ sym (ap (option_map (bytes_after past.base past.effects)) is)

pub are_lasting : (past : Past) (first last : ℕ) → AreSure past first (last + 1) → HasSureNames (codes "segments/") past → HasSegment past → AreLasting past first last
are_lasting past first last sure names (path, bytes, is_in, there) = record {
  there = λ n few from to. lasting past n (sure n from (omega (arith, to))) (named n few);
  gone = λ n few none. lasting past n (none_sure past (segment_path n) none) (named n few);
}
  where
    named : (n : ℕ) → n ≤ LAST_SEGMENT → (m : Names) → MayNames past.base past.effects m → m (segment_path n) ≡ names_after past.base past.effects (segment_path n)
    named n few m may = (let its = is_seen past path bytes there in names path its.0 is_in its.1 m may (segment_path n) (segment_in n few))
