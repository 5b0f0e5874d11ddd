-- What syncs make last.
use Rattle.std.proofs.Common.{◌≡◌, ◌⊎◌, inl, inr, ℕ, zero, suc, ◌<◌, ◌||◌, ◌&&◌, Bool, true, false, List, [], ◌∷◌, ◌++◌, Option, Some, None, option_map, length, nat_eq, refl, sym, ◌∙◌, ap, subst, codes, take, All, append_assoc, arith, get_or, Contains, cond}
use Rattle.std.specs.FinMap.{get}
use Rattle.std.proofs.lemmas.List.{append-nil}
use Rattle.std.proofs.lemmas.List.Elements.{All-head, All-tail}
use Rattle.std.specs.List.{list_any}
use Rattle.std.proofs.lemmas.Bool.Decides.{Decides-eqb}
use Rattle.devices.specs.Crash.{File, Names, MayNames, MayBytes, Stands, IsIn, HasNoSlash, names_after, bytes_after, folder_has_failed, has_failed, is_file}
use Rattle.devices.specs.Device.{Files, Effect, Past, Wrote, Added, Moved, Removed, SyncedFile, SyncedFolder, FailedFile, FailedFolder, files_of}
use Rattle.git_name.specs.Name.{IsName}
use Rattle.folder_store.specs.Place.{home_with, name_of_parts, place_of, swept_of, rest_digits, front_digits}
use Rattle.folder_store.specs.Swept.{is_whole, put_back}
use Rattle.folder_store.specs.Synced.{IsSync, OnlySyncs, first_of}
use Rattle.folder_store.specs.Lasting.{as_read, HasSureBytes, IsPlaceSafe, IsSafe, IsSafeAt, IsUnfailed}
use Rattle.devices.specs.Moments.{HoldsAtEach, Throughout, past_with}
use Rattle.folder_store.proofs.ContentLemmas.{clash}
use Rattle.folder_store.proofs.ListingLemmas.{no_slash}
use Rattle.folder_store.proofs.PlaceLemmas.{at_home, part_lengths, place_has, one_text}
use Rattle.devices.proofs.SeenLemmas.{seen_bytes}
use Rattle.folder_store.proofs.StepLemmas.{unseen}

-- ---- what syncs change
cons_cases : (e d : Effect) (done : List Effect) → Contains (d ∷ done) e → (d ≡ e) ⊎ Contains done e
cons_cases e d done has = by has.0 has.1 has.2
  where
    by : (k : ℕ) → k < suc (length done) → get_or (d ∷ done) k e ≡ e → (d ≡ e) ⊎ Contains done e
    by zero within found = inl found
    by (suc k) within found = inr (k, omega (arith, within), found)

none_in : {P : Type 0} (e : Effect) → Contains {X = Effect} [] e → P
none_in e has = (let lt = has.1 in absurd (omega (arith, lt)))

module _ (base : Files) (effects : List Effect) where
  names_still : (done : List Effect) → All IsSync done → names_after base (done ++ effects) ≡ names_after base effects
  names_still [] all = refl
  names_still (sync ∷ done) all = by sync (All-head IsSync sync done all) ∙ names_still done (All-tail IsSync sync done all)
    where
      by : (sync : Effect) → IsSync sync → names_after base (sync ∷ done ++ effects) ≡ names_after base (done ++ effects)
      by (Wrote path bytes) none = absurd none
      by (Added path bytes) none = absurd none
      by (Moved from to) none = absurd none
      by (Removed path) none = absurd none
      by (SyncedFile path) is = refl
      by (SyncedFolder folder) is = refl
      by (FailedFile path) none = absurd none
      by (FailedFolder folder) none = absurd none

  bytes_still : (done : List Effect) → All IsSync done → bytes_after base (done ++ effects) ≡ bytes_after base effects
  bytes_still [] all = refl
  bytes_still (sync ∷ done) all = by sync (All-head IsSync sync done all) ∙ bytes_still done (All-tail IsSync sync done all)
    where
      by : (sync : Effect) → IsSync sync → bytes_after base (sync ∷ done ++ effects) ≡ bytes_after base (done ++ effects)
      by (Wrote path bytes) none = absurd none
      by (Added path bytes) none = absurd none
      by (Moved from to) none = absurd none
      by (Removed path) none = absurd none
      by (SyncedFile path) is = refl
      by (SyncedFolder folder) is = refl
      by (FailedFile path) none = absurd none
      by (FailedFolder folder) none = absurd none

  file_unfailed : (done : List Effect) (f : File) → All IsSync done → has_failed base effects f ≡ false → has_failed base (done ++ effects) f ≡ false
  file_unfailed [] f all unfailed = unfailed
  file_unfailed (sync ∷ done) f all unfailed = by sync (All-head IsSync sync done all) ∙ file_unfailed done f (All-tail IsSync sync done all) unfailed
    where
      by : (sync : Effect) → IsSync sync → has_failed base (sync ∷ done ++ effects) f ≡ has_failed base (done ++ effects) f
      by (Wrote path bytes) none = absurd none
      by (Added path bytes) none = absurd none
      by (Moved from to) none = absurd none
      by (Removed path) none = absurd none
      by (SyncedFile path) is = refl
      by (SyncedFolder folder) is = refl
      by (FailedFile path) none = absurd none
      by (FailedFolder folder) none = absurd none

  folder_unfailed : (done : List Effect) (folder : List ℕ) → All IsSync done → folder_has_failed effects folder ≡ false → folder_has_failed (done ++ effects) folder ≡ false
  folder_unfailed [] folder all unfailed = unfailed
  folder_unfailed (sync ∷ done) folder all unfailed = by sync (All-head IsSync sync done all) ∙ folder_unfailed done folder (All-tail IsSync sync done all) unfailed
    where
      by : (sync : Effect) → IsSync sync → folder_has_failed (sync ∷ done ++ effects) folder ≡ folder_has_failed (done ++ effects) folder
      by (Wrote path bytes) none = absurd none
      by (Added path bytes) none = absurd none
      by (Moved from to) none = absurd none
      by (Removed path) none = absurd none
      by (SyncedFile path) is = refl
      by (SyncedFolder other) is = refl
      by (FailedFile path) none = absurd none
      by (FailedFolder other) none = absurd none

  -- names that may be left after syncs may be left before them
  may_before : (sync : Effect) (past : List Effect) (m : Names) → IsSync sync → MayNames base (sync ∷ past) m → MayNames base past m
  may_before (Wrote path bytes) past m none may = absurd none
  may_before (Added path bytes) past m none may = absurd none
  may_before (Moved from to) past m none may = absurd none
  may_before (Removed path) past m none may = absurd none
  may_before (SyncedFile path) past m is may = may
  may_before (SyncedFolder folder) past m is may = may.0
  may_before (FailedFile path) past m none may = absurd none
  may_before (FailedFolder folder) past m none may = absurd none

  bytes_before : (sync : Effect) (past : List Effect) (f : File) (x : List ℕ) → IsSync sync → MayBytes base (sync ∷ past) f x → MayBytes base past f x
  bytes_before (Wrote path bytes) past f x none may = absurd none
  bytes_before (Added path bytes) past f x none may = absurd none
  bytes_before (Moved from to) past f x none may = absurd none
  bytes_before (Removed path) past f x none may = absurd none
  bytes_before (SyncedFile path) past f x is may = may.0
  bytes_before (SyncedFolder folder) past f x is may = may
  bytes_before (FailedFile path) past f x none may = absurd none
  bytes_before (FailedFolder folder) past f x none may = absurd none

  -- a folder that was synced has the names that are seen
  name_synced : (folder q : List ℕ) (done : List Effect) (m : Names) → All IsSync done → Contains done (SyncedFolder folder) → folder_has_failed effects folder ≡ false → IsIn folder q
      → MayNames base (done ++ effects) m → m q ≡ names_after base effects q
  name_synced folder q [] m all has unfailed is_in may = none_in (SyncedFolder folder) has
  name_synced folder q (sync ∷ done) m all has unfailed is_in may =
      by (λ has. name_synced folder q done m (All-tail IsSync sync done all) has unfailed is_in (may_before sync (done ++ effects) m (All-head IsSync sync done all) may)) (cons_cases (SyncedFolder folder) sync done has)
    where
      first : MayNames base (SyncedFolder folder ∷ done ++ effects) m → m q ≡ names_after base effects q
      first may =
          may.1 (folder_unfailed done folder (All-tail IsSync sync done all) unfailed) q is_in ∙ ap (λ (n : Names). n q) (names_still done (All-tail IsSync sync done all))

      by : (Contains done (SyncedFolder folder) → m q ≡ names_after base effects q) → (sync ≡ SyncedFolder folder) ⊎ Contains done (SyncedFolder folder) → m q ≡ names_after base effects q
      by later (inl is) = first (subst (λ (e : Effect). MayNames base (e ∷ done ++ effects) m) is may)
      by later (inr has) = later has

  -- a file that was synced has the bytes that are seen
  file_synced : (path : List ℕ) (f : File) (done : List Effect) (x : List ℕ) → All IsSync done → Contains done (SyncedFile path) → names_after base effects path ≡ Some f → has_failed base effects f ≡ false
      → MayBytes base (done ++ effects) f x → x ≡ bytes_after base effects f
  file_synced path f [] x all has at_path unfailed may = none_in (SyncedFile path) has
  file_synced path f (sync ∷ done) x all has at_path unfailed may =
      by (λ has. file_synced path f done x (All-tail IsSync sync done all) has at_path unfailed (bytes_before sync (done ++ effects) f x (All-head IsSync sync done all) may)) (cons_cases (SyncedFile path) sync done has)
    where
      first : MayBytes base (SyncedFile path ∷ done ++ effects) f x → x ≡ bytes_after base effects f
      first may =
          may.1 (ap (λ (n : Names). n path) (names_still done (All-tail IsSync sync done all)) ∙ at_path) (file_unfailed done f (All-tail IsSync sync done all) unfailed)
          ∙ ap (λ (b : File → List ℕ). b f) (bytes_still done (All-tail IsSync sync done all))

      by : (Contains done (SyncedFile path) → x ≡ bytes_after base effects f) → (sync ≡ SyncedFile path) ⊎ Contains done (SyncedFile path) → x ≡ bytes_after base effects f
      by later (inl is) = first (subst (λ (e : Effect). MayBytes base (e ∷ done ++ effects) f x) is may)
      by later (inr has) = later has

-- ---- a file that was synced, and its folder
the_bytes : (o : Option File) (b : File → List ℕ) (x : List ℕ) → option_map b o ≡ Some x → (f : File) × (o ≡ Some f) × (b f ≡ x)
the_bytes None b x is = absurd (cc)
the_bytes (Some f) b x is = (f, refl, (let same : Some (b f) ≡ Some x = is in cc))

-- whatever a loss of power leaves at the path is what is seen there
pub synced_safe : (old new : Past) (done : List Effect) (path folder name bytes : List ℕ) → OnlySyncs done old new → Contains done (SyncedFile path) → Contains done (SyncedFolder folder) → IsIn folder path
    → ((f : File) → has_failed old.base old.effects f ≡ false) → folder_has_failed old.effects folder ≡ false → get (files_of old) path ≡ Some bytes → is_whole name (as_read (Some bytes)) ≡ true → IsSafeAt path new name
synced_safe old new done path folder name bytes only file home is_in unfailed folder_unfailed there whole =
    subst (λ (p : Past). IsSafeAt path p name) (sym only.past) (λ m may found stands. by m may found (the_bytes _ _ bytes (seen_bytes old.base old.effects path ∙ there)) stands)
  where
    by : (m : Names) → MayNames old.base (done ++ old.effects) m → (found : Option (List ℕ)) → (f : File) × (names_after old.base old.effects path ≡ Some f) × (bytes_after old.base old.effects f ≡ bytes)
        → Stands old.base (done ++ old.effects) (m path) found → is_whole name (as_read found) ≡ true
    by m may found (f, at_path, has) stands = at_file (subst (λ (o : Option File). Stands old.base (done ++ old.effects) o found) (name_synced old.base old.effects folder path done m only.syncs home folder_unfailed is_in may ∙ at_path) stands)
      where
        at_file : Stands old.base (done ++ old.effects) (Some f) found → is_whole name (as_read found) ≡ true
        at_file (x, is, left) =
            ap (λ (o : Option (List ℕ)). is_whole name (as_read o)) (is ∙ ap (λ (y : List ℕ). Some y) (file_synced old.base old.effects path f done x only.syncs file at_path (unfailed f) left ∙ has)) ∙ whole

-- ---- a file and its folder
slashless : (bytes : List ℕ) → list_any (λ b. nat_eq b 47) bytes ≡ false → HasNoSlash bytes
slashless [] none = tt
slashless (b ∷ bytes) none = (λ is. clash (nat_eq b 47) ((Decides-eqb b 47).1 is) (first (nat_eq b 47) _ none), slashless bytes (second (nat_eq b 47) _ none))
  where
    first : (a c : Bool) → a || c ≡ false → a ≡ false
    first false c e = refl
    first true c e = absurd (cc)

    second : (a c : Bool) → a || c ≡ false → c ≡ false
    second false c e = e
    second true c e = absurd (cc)

module _ (name : List ℕ) (is_name : IsName name) where
  parts_are : name_of_parts (front_digits name) (rest_digits name) ≡ Some name
  parts_are = sym (at_home (front_digits name) (rest_digits name) (part_lengths (front_digits name) (rest_digits name) name is_name refl refl).0) ∙ place_has name is_name

  pub digits_slashless : list_any (λ b. nat_eq b 47) (rest_digits name) ≡ false
  digits_slashless = no_slash (front_digits name) (rest_digits name) name parts_are

  -- a file is right in its folder
  pub at_home_of : IsIn (home_with (take 1 name)) (place_of name)
  at_home_of = (
    rest_digits name,
    sym (ap (λ (xs : List ℕ). codes "objects/" ++ xs) (append_assoc (front_digits name) (47 ∷ []) (rest_digits name))),
    slashless (rest_digits name) digits_slashless,
  )

  pub first_one : take 1 name ≡ first_of name ∷ []
  first_one = by name is_name
    where
      by : (n : List ℕ) → IsName n → take 1 n ≡ first_of n ∷ []
      by [] is = (let long = is.length in absurd (omega (arith, long)))
      by (b ∷ bytes) is = refl

-- ---- what syncs leave
pub syncs_unfailed : (old new : Past) (done : List Effect) → OnlySyncs done old new → IsUnfailed old → IsUnfailed new
syncs_unfailed old new done only unfailed =
    subst (λ (p : Past). IsUnfailed p) (sym only.past) (record {
      files = λ f. file_unfailed old.base old.effects done f only.syncs (unfailed.files f);
      folders = λ folder. folder_unfailed old.base old.effects done folder only.syncs (unfailed.folders folder);
    })

stood_before : (base : Files) (effects done : List Effect) (o : Option File) (found : Option (List ℕ)) → All IsSync done → Stands base (done ++ effects) o found → Stands base effects o found
stood_before base effects [] o found all stands = stands
stood_before base effects (sync ∷ done) None found all stands = stands
stood_before base effects (sync ∷ done) (Some f) found all (x, is, may) =
    stood_before base effects done (Some f) found (All-tail IsSync sync done all) (x, is, bytes_before base effects sync (done ++ effects) f x (All-head IsSync sync done all) may)

may_first : (base : Files) (effects done : List Effect) (m : Names) → All IsSync done → MayNames base (done ++ effects) m → MayNames base effects m
may_first base effects [] m all may = may
may_first base effects (sync ∷ done) m all may = may_first base effects done m (All-tail IsSync sync done all) (may_before base effects sync (done ++ effects) m (All-head IsSync sync done all) may)

pub syncs_safe_at : (old new : Past) (done : List Effect) (path name : List ℕ) → OnlySyncs done old new → IsSafeAt path old name → IsSafeAt path new name
syncs_safe_at old new done path name only safe =
    subst (λ (p : Past). IsSafeAt path p name) (sym only.past) (λ m may found stands.
    safe m (may_first old.base old.effects done m only.syncs may) found (stood_before old.base old.effects done (m path) found only.syncs stands))

-- syncs keep a file safe at its place at each moment
syncs_each : (old : Past) (name : List ℕ) (done : List Effect) → All IsSync done → IsPlaceSafe name old → HoldsAtEach (IsPlaceSafe name) old done
syncs_each old name [] all safe = safe
syncs_each old name (sync ∷ done) all safe =
    (syncs_safe_at old (past_with old (sync ∷ done)) (sync ∷ done) (place_of name) name (record { syncs = all; past = refl }) safe, syncs_each old name done (All-tail IsSync sync done all) safe)

pub syncs_throughout : (old new : Past) (done : List Effect) (name : List ℕ) → OnlySyncs done old new → IsPlaceSafe name old → Throughout (IsPlaceSafe name) old new
syncs_throughout old new done name only safe = record { done = done; all = only.past; each = syncs_each old name done only.syncs safe }

pub syncs_safe : (old new : Past) (done : List Effect) (name : List ℕ) → OnlySyncs done old new → IsSafe old name → IsSafe new name
syncs_safe old new done name only safe =
    subst (λ (p : Past). IsSafe p name) (sym only.past) (λ m may swept there s t.
    safe m (may_first old.base old.effects done m only.syncs may) swept there (stood_before old.base old.effects done (m (swept_of name)) swept only.syncs s) (stood_before old.base old.effects done (m (place_of name)) there only.syncs t))

pub syncs_sure : (old new : Past) (done : List Effect) (path name : List ℕ) → OnlySyncs done old new → HasSureBytes path old name → HasSureBytes path new name
syncs_sure old new done path name only sure =
    subst (λ (p : Past). HasSureBytes path p name) (sym only.past) (λ f at_path x may.
    (let was = stood_before old.base old.effects done (Some f) (Some x) only.syncs (x, refl, may) in
    sure f (ap (λ (n : Names). n path) (sym (names_still old.base old.effects done only.syncs)) ∙ at_path) x (subst (λ (y : List ℕ). MayBytes old.base old.effects f y) (some_bytes was.0 x (sym was.1)) was.2)))
  where
    some_bytes : (a b : List ℕ) → Some a ≡ Some b → a ≡ b
    some_bytes a b is = cc

-- ---- what is alone
alone_whole : (name : List ℕ) (swept : Option (List ℕ)) → is_whole name (put_back name (as_read swept) (as_read None)) ≡ true → is_whole name (as_read swept) ≡ true
alone_whole name None whole = whole
alone_whole name (Some bytes) whole = whole

-- a swept file, once it is sure that no other one of its name is at the object's place
pub alone_safe : (old new : Past) (done : List Effect) (name : List ℕ) → IsName name → OnlySyncs done old new → Contains done (SyncedFolder (home_with (take 1 name))) → folder_has_failed old.effects (home_with (take 1 name)) ≡ false
    → get (files_of old) (place_of name) ≡ None → IsSafe old name → IsSafeAt (swept_of name) new name
alone_safe old new done name is_name only home unfailed none safe =
    subst (λ (p : Past). IsSafeAt (swept_of name) p name) (sym only.past) (λ m may found stands.
    (let gone : m (place_of name) ≡ None = name_synced old.base old.effects (home_with (take 1 name)) (place_of name) done m only.syncs home unfailed (at_home_of name is_name) may ∙ unseen old (place_of name) none in
    alone_whole name found (safe m (may_first old.base old.effects done m only.syncs may) found None (stood_before old.base old.effects done (m (swept_of name)) found only.syncs stands)
    (subst (λ (o : Option File). Stands old.base old.effects o None) (sym gone) refl))))

is_it : (o : Option File) (f : File) → is_file o f ≡ true → o ≡ Some f
is_it None f same = absurd (cc)
is_it (Some (p, n)) (q, m) same =
    let both = both_true _ _ same in
    let paths : p ≡ q = one_text p q both.0 in
    let numbers : n ≡ m = (Decides-eqb n m).0 both.1 in
    cc
  where
    both_true : (a b : Bool) → (a && b) ≡ true → (a ≡ true) × (b ≡ true)
    both_true true b is = (refl, is)
    both_true false b is = absurd (cc)

-- the bytes that are seen may be left
bytes_may : (base : Files) (past : List Effect) (f : File) → MayBytes base past f (bytes_after base past f)
bytes_may base [] f = refl
bytes_may base (Wrote path bytes ∷ past) f = by (bytes_may base past f) (nat_eq f.1 (suc (length past))) refl
  where
    by : MayBytes base past f (bytes_after base past f) → (b : Bool) → nat_eq f.1 (suc (length past)) ≡ b → MayBytes base (Wrote path bytes ∷ past) f (cond b bytes (bytes_after base past f))
    by was true is = inl ((Decides-eqb f.1 (suc (length past))).0 is)
    by was false is = inr was
bytes_may base (Added path bytes ∷ past) f = by (bytes_may base past f) (nat_eq f.1 (suc (length past))) (is_file (names_after base past path) f) refl refl
  where
    by : MayBytes base past f (bytes_after base past f) → (b c : Bool) → nat_eq f.1 (suc (length past)) ≡ b → is_file (names_after base past path) f ≡ c → MayBytes base (Added path bytes ∷ past) f (cond b bytes (cond c (bytes_after base past f ++ bytes) (bytes_after base past f)))
    by was true c is same = inl ((Decides-eqb f.1 (suc (length past))).0 is)
    by was false true is same = inr (inr (bytes_after base past f, was, is_it (names_after base past path) f same, ((bytes, refl), ([], sym (append-nil (bytes_after base past f ++ bytes))))))
    by was false false is same = inr (inl was)
bytes_may base (Moved from to ∷ past) f = bytes_may base past f
bytes_may base (Removed path ∷ past) f = bytes_may base past f
bytes_may base (SyncedFile path ∷ past) f = (bytes_may base past f, λ at_path unfailed. refl)
bytes_may base (SyncedFolder folder ∷ past) f = bytes_may base past f
bytes_may base (FailedFile path ∷ past) f = bytes_may base past f
bytes_may base (FailedFolder folder ∷ past) f = bytes_may base past f

-- what is seen at a path is among what may be left there
pub seen_stands : (past : Past) (q : List ℕ) → Stands past.base past.effects (names_after past.base past.effects q) (get (files_of past) q)
seen_stands past q = by (names_after past.base past.effects q) (seen_bytes past.base past.effects q)
  where
    by : (o : Option File) → option_map (bytes_after past.base past.effects) o ≡ get (files_of past) q → Stands past.base past.effects o (get (files_of past) q)
    by None is = sym is
    by (Some f) is = (bytes_after past.base past.effects f, sym is, bytes_may past.base past.effects f)
