-- What lasts, after each effect of a folder.
use Rattle.std.proofs.Common.{◌≡◌, ◌≢◌, ◌≤◌, ℕ, length, ◌||◌, Bool, true, false, cond, List, ◌∷◌, Option, Some, None, nat_eq, refl, sym, ◌∙◌, ap, subst}
use Rattle.std.specs.Cmp.Lexicographic.{pointwise}
use Rattle.std.specs.FinMap.{get, insert, remove, get-insert, get-remove}
use Rattle.std.specs.Ordering.{is_eq}
use Rattle.devices.specs.Crash.{File, MayLeave, Stands, names_after}
use Rattle.devices.specs.Device.{Files, Effect, Past, IsPart, Wrote, Added, Moved, Removed, SyncedFile, SyncedFolder, FailedFile, FailedFolder, files_after, files_of, put_there, with_effect}
use Rattle.git_name.specs.Name.{IsName, name_cmp}
use Rattle.git_name.proofs.Names.{name_total}
use Rattle.folder_store.specs.Place.{name_at, part_of, place_of, swept_at, swept_of}
use Rattle.folder_store.specs.Swept.{is_whole, opened, put_back}
use Rattle.folder_store.proofs.ContentLemmas.{get_file, not_true, one_key, same_key}
use Rattle.folder_store.proofs.PlaceLemmas.{one_text, part_has_none, place_has, same_text}
use Rattle.folder_store.proofs.SweptLemmas.{swept_has}
use Rattle.folder_store.specs.Lasting.{as_read, HasSureBytes, IsSafe, IsSafeAt, Lasts}
use Rattle.devices.proofs.BeforeLemmas.{IsOfNames, aged, before, names_off, older, seen_may, stood_at}
use Rattle.devices.specs.Loss.{touches}

-- ---- what a loss of power leaves
pub left_whole : (past : Past) (name : List ℕ) (left : Files) → IsName name → IsSafe past name → MayLeave past.base past.effects left → is_whole name (opened left name) ≡ true
left_whole past name left is_name safe (m, may, stands) =
    ap (λ (o : Option (List ℕ)). is_whole name (put_back name (as_read (get left (swept_of name))) o)) (sym (get_file left name is_name))
    ∙ safe m may (get left (swept_of name)) (get left (place_of name)) (stands (swept_of name)) (stands (place_of name))

-- ---- paths
both_ways : (a b : Bool) → (a ≡ true → b ≡ true) → (b ≡ true → a ≡ true) → a ≡ b
both_ways true b to from = sym (to refl)
both_ways false true to from = from refl
both_ways false false to from = refl

pub one_test : (path q : List ℕ) → is_eq (name_cmp q path) ≡ pointwise nat_eq path q
one_test path q = both_ways _ _ (λ is. ap (λ (p : List ℕ). pointwise nat_eq path p) (one_key q path is) ∙ same_text path) (λ is. ap (λ (p : List ℕ). is_eq (name_cmp p path)) (sym (one_text path q is)) ∙ same_key path)

-- two paths of which one test tells that they differ
pub apart : {A : Type 0} (test : List ℕ → A) (a b : List ℕ) → test a ≢ test b → pointwise nat_eq a b ≡ false
apart test a b differ = not_true _ (λ same. differ (ap test (one_text a b same)))

some_one : (a b : List ℕ) → Some a ≡ Some b → a ≡ b
some_one a b is = cc

some_none : {P : Type 0} (a : List ℕ) → Some a ≡ None → P
some_none a is = absurd (cc)

pub places_apart : (n q : List ℕ) → IsName n → IsName q → n ≢ q → pointwise nat_eq (place_of n) (place_of q) ≡ false
places_apart n q n_name q_name differ = apart name_at (place_of n) (place_of q) (λ same. differ (some_one n q (sym (place_has n n_name) ∙ same ∙ place_has q q_name)))

pub swept_apart : (n q : List ℕ) → IsName n → IsName q → n ≢ q → pointwise nat_eq (swept_of n) (swept_of q) ≡ false
swept_apart n q n_name q_name differ = apart swept_at (swept_of n) (swept_of q) (λ same. differ (some_one n q (sym (swept_has n n_name) ∙ same ∙ swept_has q q_name)))

pub part_off_place : (n q : List ℕ) → IsName n → IsName q → pointwise nat_eq (part_of n) (place_of q) ≡ false
part_off_place n q n_name q_name = apart name_at (part_of n) (place_of q) (λ same. some_none q (sym (place_has q q_name) ∙ sym same ∙ part_has_none n n_name))

pub part_off_swept : (n q : List ℕ) → pointwise nat_eq (part_of n) (swept_of q) ≡ false
part_off_swept n q = refl

pub place_off_swept : (n q : List ℕ) → pointwise nat_eq (place_of n) (swept_of q) ≡ false
place_off_swept n q = refl

pub swept_off_place : (n q : List ℕ) → pointwise nat_eq (swept_of n) (place_of q) ≡ false
swept_off_place n q = refl

-- ---- files that an effect does not touch
inserted_off : (files : Files) (path q bytes : List ℕ) → pointwise nat_eq path q ≡ false → get (insert files path bytes) q ≡ get files q
inserted_off files path q bytes differs = get-insert name_total files path bytes q ∙ ap (λ (t : Bool). cond t (Some bytes) (get files q)) (one_test path q ∙ differs)

pub removed_off : (files : Files) (path q : List ℕ) → pointwise nat_eq path q ≡ false → get (remove files path) q ≡ get files q
removed_off files path q differs = get-remove name_total files path q ∙ ap (λ (t : Bool). cond t None (get files q)) (one_test path q ∙ differs)

pub removed_here : (files : Files) (path : List ℕ) → get (remove files path) path ≡ None
removed_here files path = get-remove name_total files path path ∙ ap (λ (t : Bool). cond t None (get files path)) (same_key path)

pub put_off : (files : Files) (path q : List ℕ) (o : Option (List ℕ)) → pointwise nat_eq path q ≡ false → get (put_there files path o) q ≡ get files q
put_off files path q None differs = refl
put_off files path q (Some bytes) differs = inserted_off files path q bytes differs

neither : (a b : Bool) → (a || b) ≡ false → (a ≡ false) × (b ≡ false)
neither false b e = (refl, e)
neither true b e = absurd (cc)

pub file_off : (base : Files) (past : List Effect) (e : Effect) (q : List ℕ) → touches e q ≡ false → get (files_after base (e ∷ past)) q ≡ get (files_after base past) q
file_off base past (Wrote path bytes) q off = inserted_off (files_after base past) path q bytes off
file_off base past (Added path bytes) q off = inserted_off (files_after base past) path q _ off
file_off base past (Moved from to) q off =
    let both = neither _ _ off in
    put_off (remove (files_after base past) from) to q (get (files_after base past) from) both.1 ∙ removed_off (files_after base past) from q both.0
file_off base past (Removed path) q off = removed_off (files_after base past) path q off
file_off base past (SyncedFile path) q off = refl
file_off base past (SyncedFolder folder) q off = refl
file_off base past (FailedFile path) q off = refl
file_off base past (FailedFolder folder) q off = refl

-- ---- an effect at other paths
-- the effect changes neither which file is at the path, nor a file that exists
pub record IsOff (e : Effect) (q : List ℕ) : Type 0 where
  pub names : IsOfNames e
  pub off : touches e q ≡ false

pub part_off : (e part : Effect) (q : List ℕ) → IsPart e part → IsOff e q → IsOff part q
part_off (Wrote path bytes) part q (n, is) off = subst (λ (p : Effect). IsOff p q) (sym is) (record { names = tt; off = off.off })
part_off (Added path bytes) part q of off = absurd off.names
part_off (Moved from to) part q is off = subst (λ (p : Effect). IsOff p q) (sym is) off
part_off (Removed path) part q is off = subst (λ (p : Effect). IsOff p q) (sym is) off
part_off (SyncedFile path) part q is off = subst (λ (p : Effect). IsOff p q) (sym is) (record { names = tt; off = refl })
part_off (SyncedFolder folder) part q is off = subst (λ (p : Effect). IsOff p q) (sym is) (record { names = tt; off = refl })
part_off (FailedFile path) part q is off = subst (λ (p : Effect). IsOff p q) (sym is) (record { names = tt; off = refl })
part_off (FailedFolder folder) part q is off = subst (λ (p : Effect). IsOff p q) (sym is) (record { names = tt; off = refl })

pub safe_at_off : (old : Past) (e : Effect) (q name : List ℕ) → IsOff e q → IsSafeAt q old name → IsSafeAt q (with_effect old e) name
safe_at_off old e q name off safe m may found stands =
    let was = before old.base old.effects e m may in
    safe was.names was.may found (stood_at old.base old.effects e m was.names q found off.names was.may (was.others q off.off) stands)

pub safe_off : (old : Past) (e : Effect) (name : List ℕ) → IsOff e (swept_of name) → IsOff e (place_of name) → IsSafe old name → IsSafe (with_effect old e) name
safe_off old e name off_swept off_place safe m may swept there s t =
    let was = before old.base old.effects e m may in
    safe was.names was.may swept there
    (stood_at old.base old.effects e m was.names (swept_of name) swept off_swept.names was.may (was.others (swept_of name) off_swept.off) s)
    (stood_at old.base old.effects e m was.names (place_of name) there off_place.names was.may (was.others (place_of name) off_place.off) t)

-- a file that is seen is older than the effects to come
pub seen_age : (base : Files) (past : List Effect) (q : List ℕ) (f : File) → names_after base past q ≡ Some f → f.1 ≤ length past
seen_age base past q f at_path = aged base past (names_after base past) (seen_may base past) q f at_path

pub sure_off : (old : Past) (e : Effect) (q name : List ℕ) → IsOff e q → HasSureBytes q old name → HasSureBytes q (with_effect old e) name
sure_off old e q name off sure f at_path x may =
    let was = sym (names_off old.base old.effects e q off.off) ∙ at_path in
    sure f was x (older old.base old.effects e f x off.names (seen_age old.base old.effects q f was) may)

pub lasts_off : (old : Past) (e : Effect) (name : List ℕ) → IsOff e (swept_of name) → IsOff e (place_of name) → Lasts old name → Lasts (with_effect old e) name
lasts_off old e name off_swept off_place lasts = record {
  safe = safe_off old e name off_swept off_place lasts.safe;
  both = λ older newer s t. sure_off old e (place_of name) name off_place (lasts.both older newer (sym (file_off old.base old.effects e (swept_of name) off_swept.off) ∙ s) (sym (file_off old.base old.effects e (place_of name) off_place.off) ∙ t));
}

-- ---- the swept file alone
pub by_swept : (name : List ℕ) (swept there : Option (List ℕ)) → is_whole name swept ≡ true → is_whole name (put_back name swept there) ≡ true
by_swept name None there whole = absurd (cc)
by_swept name (Some bytes) there whole = by (is_whole name there) refl
  where
    by : (b : Bool) → is_whole name there ≡ b → is_whole name (cond b there (Some bytes)) ≡ true
    by true is = is
    by false is = whole

pub safe_by_swept : (past : Past) (name : List ℕ) → IsSafeAt (swept_of name) past name → IsSafe past name
safe_by_swept past name safe m may swept there s t = by_swept name (as_read swept) (as_read there) (safe m may swept s)

-- ---- the file at the place alone
pub there_whole : (name : List ℕ) (swept there : Option (List ℕ)) → is_whole name there ≡ true → is_whole name (put_back name swept there) ≡ true
there_whole name None there whole = whole
there_whole name (Some bytes) there whole = ap (λ (b : Bool). is_whole name (cond b there (Some bytes))) whole ∙ whole

pub safe_by_place : (past : Past) (name : List ℕ) → IsSafeAt (place_of name) past name → IsSafe past name
safe_by_place past name safe m may swept there s t = there_whole name (as_read swept) (as_read there) (safe m may there t)

pub sure_by_place : (past : Past) (path name : List ℕ) → IsSafeAt path past name → HasSureBytes path past name
sure_by_place past path name safe f at_path x may =
    safe (names_after past.base past.effects) (seen_may past.base past.effects) (Some x) (subst (λ (o : Option File). Stands past.base past.effects o (Some x)) (sym at_path) (x, refl, may))

pub lasts_by_place : (past : Past) (name : List ℕ) → IsSafeAt (place_of name) past name → Lasts past name
lasts_by_place past name safe = record {
  safe = safe_by_place past name safe;
  both = λ older newer s t. sure_by_place past (place_of name) name safe;
}

-- a safe file, where one of the two is not there
pub none_or : {P : Type 0} (o : Option (List ℕ)) (x : List ℕ) → o ≡ None → o ≡ Some x → P
none_or o x none some = absurd (cc)

pub lasts_unswept : (past : Past) (name : List ℕ) → get (files_of past) (swept_of name) ≡ None → IsSafe past name → Lasts past name
lasts_unswept past name none safe = record {
  safe = safe;
  both = λ older newer s t. none_or (get (files_of past) (swept_of name)) older none s;
}

pub lasts_unplaced : (past : Past) (name : List ℕ) → get (files_of past) (place_of name) ≡ None → IsSafe past name → Lasts past name
lasts_unplaced past name none safe = record {
  safe = safe;
  both = λ older newer s t. none_or (get (files_of past) (place_of name)) newer none t;
}
