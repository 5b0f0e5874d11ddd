-- Syncs one after another.
use Rattle.std.proofs.Common.{◌≡◌, ◌≢◌, ◌<◌, ◌⊎◌, inl, inr, ℕ, zero, suc, ◌+◌, ◌||◌, Bool, true, false, List, [], ◌∷◌, ◌++◌, ◌-◌, Option, Some, None, IsSome, Result, Ok, Err, OnOk, All, nat_eq, length, length-append, replicate, refl, sym, ◌∙◌, ap, subst, append_assoc, arith, slice_index_or, slice_set}
use Rattle.std.specs.FinMap as map
use Rattle.std.specs.List.{Contains, list_any, slice_get}
use Rattle.std.specs.Option.{option_to_list}
use Rattle.std.proofs.lemmas.Bool.Decides.{Decides-eqb, nat_tests}
use Rattle.std.proofs.lemmas.List.{get_or-set_same, get_or-set_other}
use Rattle.std.proofs.lemmas.List.Elements.{All-nil, All-cons, All-head, All-tail, All-append, Contains-append_left, Contains-append_right, Contains-push}
use Rattle.std.proofs.lemmas.List.Folds.{list_any-append}
use Rattle.std.proofs.lemmas.Option.{slice_get_within}
use Rattle.git_name.specs.Same.{same_name}
use Rattle.git_name.proofs.HashMaps.{one_name}
use Rattle.devices.specs.Device.{Files, Effect, Past, Does, Wrote, Added, Moved, Removed, SyncedFile, SyncedFolder, FailedFile, FailedFolder, Untried, files_after, files_of, names_in_folder, with_effect}
use Rattle.devices.specs.declared.device.DeviceFault.{DeviceFault}
use Rattle.devices.specs.declared.device.DeviceFault.TheVariants.{Device, Unopened, Missing, Memory, Room}
use Rattle.folder_store.specs.Place.{place_of}
use Rattle.folder_store.specs.Synced.{IsSync, OnlySyncs, home_at, HasNone, IsHomeSynced, SyncsHome, failed_after, first_of, HasOnlySyncs, IsMarked, SyncsFiles, SyncsHomes, SyncsBoth, AreSynced}

-- ---- what was done
only_none : (old new : Past) → new ≡ old → OnlySyncs [] old new
only_none old new is = record { syncs = All-nil IsSync; past = is }

only_one : (old new : Past) (sync : Effect) → IsSync sync → new ≡ with_effect old sync → OnlySyncs (sync ∷ []) old new
only_one old new sync is_sync is = record { syncs = All-cons IsSync sync [] is_sync (All-nil IsSync); past = is }

pub only_then : (first then : List Effect) (a b c : Past) → OnlySyncs first a b → OnlySyncs then b c → OnlySyncs (then ++ first) a c
only_then first then a b c one two = record {
  syncs = All-append IsSync then first two.syncs one.syncs;
  past = two.past ∙ ap (λ (p : Past). record p { effects = then ++ p.effects }) one.past ∙ ap (λ (es : List Effect). record a { effects = es }) (sym (append_assoc then first a.effects));
}

-- syncs leave the files
same_after : (base : Files) (done effects : List Effect) → All IsSync done → files_after base (done ++ effects) ≡ files_after base effects
same_after base [] effects all = refl
same_after base (sync ∷ done) effects all = by sync (All-head IsSync sync done all) ∙ same_after base done effects (All-tail IsSync sync done all)
  where
    by : (sync : Effect) → IsSync sync → files_after base (sync ∷ done ++ effects) ≡ files_after base (done ++ effects)
    by (Wrote path bytes) none = absurd none
    by (Added path bytes) none = absurd none
    by (Moved from to) none = absurd none
    by (Removed path) none = absurd none
    by (SyncedFile path) is = refl
    by (SyncedFolder folder) is = refl
    by (FailedFile path) none = absurd none
    by (FailedFolder folder) none = absurd none

pub only_files : (done : List Effect) (old new : Past) → OnlySyncs done old new → files_of new ≡ files_of old
only_files done old new only = ap files_of only.past ∙ same_after old.base done old.effects only.syncs

-- a call that succeeded had its effect
pub does_ok : {A E : Type 0} (effect : Effect) (old new : Past) (result : Result A E) (answer : A) → Ok answer ≡ result → Does effect old new result → new ≡ with_effect old effect
does_ok effect old new (Ok a) answer is does = does
does_ok effect old new (Err fault) answer is does = absurd (cc)

-- ---- files
pub files_none : (noted left : List ℕ → Bool) (homes marked : List Bool) (old new : Past) → left ≡ noted → marked ≡ homes → new ≡ old → SyncsFiles noted left homes marked old new
files_none noted left homes marked old new same alike is = record {
  done = [];
  only = only_none old new is;
  files = λ name e. inl (ap (λ (f : List ℕ → Bool). f name) same ∙ e);
  marks = λ first mark. subst (λ (h : List Bool). IsMarked h first) (sym alike) mark;
}

pub files_then : (n m l : List ℕ → Bool) (h k j : List Bool) (a b c : Past) → SyncsFiles n m h k a b → SyncsFiles m l k j b c → SyncsFiles n l h j a c
files_then n m l h k j a b c one two = record {
  done = two.done ++ one.done;
  only = only_then one.done two.done a b c one.only two.only;
  files = λ name e. first name (one.files name e);
  marks = λ at mark. two.marks at (one.marks at mark);
}
  where
    first : (name : List ℕ) → ((m name ≡ true) ⊎ (Contains one.done (SyncedFile (place_of name)) × IsMarked k (first_of name))) → (l name ≡ true) ⊎ (Contains (two.done ++ one.done) (SyncedFile (place_of name)) × IsMarked j (first_of name))
    first name (inl still) = then (two.files name still)
      where
        then : ((l name ≡ true) ⊎ (Contains two.done (SyncedFile (place_of name)) × IsMarked j (first_of name))) → (l name ≡ true) ⊎ (Contains (two.done ++ one.done) (SyncedFile (place_of name)) × IsMarked j (first_of name))
        then (inl e) = inl e
        then (inr (has, mark)) = inr (Contains-append_left two.done one.done _ has, mark)
    first name (inr (has, mark)) = inr (Contains-append_right two.done one.done _ has, two.marks (first_of name) mark)

-- a mark that is set, and the others
set_marks : (homes : List Bool) (at : ℕ) → at < length homes → (first : ℕ) → IsMarked homes first → IsMarked (slice_set homes at true) first
set_marks homes at within first (small, mark) = (small, by (nat_eq first at) refl)
  where
    by : (b : Bool) → nat_eq first at ≡ b → slice_index_or (slice_set homes at true) first false ≡ true
    by true e = ap (λ (n : ℕ). slice_index_or (slice_set homes at true) n false) ((Decides-eqb first at).0 e) ∙ get_or-set_same homes at true false within
    by false e = get_or-set_other homes at first true false (λ is. (let same : nat_eq first at ≡ true = (Decides-eqb first at).1 is in absurd (cc (sym e ∙ same)))) ∙ mark

-- the file that was noted last
pub file_one : (keys left : List (List ℕ)) (name : List ℕ) (homes was : List Bool) (at : ℕ) (old new : Past) → keys ≡ left ++ name ∷ [] → new ≡ with_effect old (SyncedFile (place_of name)) → was ≡ homes
    → at ≡ first_of name → at < 256 → at < length homes → SyncsFiles (λ q. list_any (same_name q) keys) (λ q. list_any (same_name q) left) homes (slice_set was at true) old new
file_one keys left name homes was at old new keys_are is alike at_is small within = record {
  done = SyncedFile (place_of name) ∷ [];
  only = only_one old new (SyncedFile (place_of name)) tt is;
  files = λ q e. either q (list_any (same_name q) left) refl (sym (list_any-append (same_name q) left (name ∷ [])) ∙ sym (ap (list_any (same_name q)) keys_are) ∙ e);
  marks = λ first mark. subst (λ (h : List Bool). IsMarked (slice_set h at true) first) (sym alike) (set_marks homes at within first mark);
}
  where
    marked : IsMarked (slice_set was at true) (first_of name)
    marked = subst (λ (n : ℕ). IsMarked (slice_set was at true) n) at_is (small, ap (λ (h : List Bool). slice_index_or (slice_set h at true) at false) alike ∙ get_or-set_same homes at true false within)

    same : (q : List ℕ) (b : Bool) → same_name q name ≡ b → b || false ≡ true → (list_any (same_name q) left ≡ true) ⊎ (Contains (SyncedFile (place_of name) ∷ []) (SyncedFile (place_of q)) × IsMarked (slice_set was at true) (first_of q))
    same q true e t =
        subst (λ (r : List ℕ). (list_any (same_name q) left ≡ true) ⊎ (Contains (SyncedFile (place_of name) ∷ []) (SyncedFile (place_of r)) × IsMarked (slice_set was at true) (first_of r))) (sym (one_name q name e))
        (inr (Contains-push [] (SyncedFile (place_of name)), marked))
    same q false e t = absurd (cc)

    either : (q : List ℕ) (a : Bool) → list_any (same_name q) left ≡ a → a || (same_name q name || false) ≡ true → (list_any (same_name q) left ≡ true) ⊎ (Contains (SyncedFile (place_of name) ∷ []) (SyncedFile (place_of q)) × IsMarked (slice_set was at true) (first_of q))
    either q true is t = inl is
    either q false is t = same q (same_name q name) refl t

-- ---- folders
pub homes_none : (homes marked : List Bool) (old new : Past) → marked ≡ homes → new ≡ old → SyncsHomes homes marked old new
homes_none homes marked old new alike is = record {
  done = [];
  only = only_none old new is;
  folders = λ first mark. inl (subst (λ (h : List Bool). IsMarked h first) (sym alike) mark);
}

-- another folder was synced
pub homes_other : (homes marked : List Bool) (folder : List ℕ) (old new : Past) → marked ≡ homes → new ≡ with_effect old (SyncedFolder folder) → SyncsHomes homes marked old new
homes_other homes marked folder old new alike is = record {
  done = SyncedFolder folder ∷ [];
  only = only_one old new (SyncedFolder folder) tt is;
  folders = λ first mark. inl (subst (λ (h : List Bool). IsMarked h first) (sym alike) mark);
}

pub homes_then : (h k j : List Bool) (a b c : Past) → SyncsHomes h k a b → SyncsHomes k j b c → SyncsHomes h j a c
homes_then h k j a b c one two = record {
  done = two.done ++ one.done;
  only = only_then one.done two.done a b c one.only two.only;
  folders = λ at mark. first at (one.folders at mark);
}
  where
    from_b : (at : ℕ) → HasNone at (files_of b) → HasNone at (files_of a)
    from_b at none = subst (λ (f : Files). HasNone at f) (only_files one.done a b one.only) none

    first : (at : ℕ) → (IsMarked k at ⊎ IsHomeSynced at one.done (files_of a)) → IsMarked j at ⊎ IsHomeSynced at (two.done ++ one.done) (files_of a)
    first at (inl mark) = then (two.folders at mark)
      where
        then : (IsMarked j at ⊎ IsHomeSynced at two.done (files_of b)) → IsMarked j at ⊎ IsHomeSynced at (two.done ++ one.done) (files_of a)
        then (inl mark) = inl mark
        then (inr (inl has)) = inr (inl (Contains-append_left two.done one.done _ has))
        then (inr (inr none)) = inr (inr (from_b at none))
    first at (inr (inl has)) = inr (inl (Contains-append_right two.done one.done _ has))
    first at (inr (inr none)) = inr (inr none)

-- the folder of one byte
pub home_one : {A : Type 0} (homes was : List Bool) (at : ℕ) (old new : Past) (result : Result A DeviceFault) (answer : A) → Ok answer ≡ result → SyncsHome at old new result → was ≡ homes → SyncsHomes homes (slice_set was at false) old new
home_one homes was at old new (Err fault) answer is synced alike = absurd (cc)
home_one homes was at old new (Ok a) answer is synced alike = by synced
  where
    others : (done : List Effect) → IsHomeSynced at done (files_of old) → (first : ℕ) → IsMarked homes first → IsMarked (slice_set was at false) first ⊎ IsHomeSynced first done (files_of old)
    others done here first (small, mark) = test (nat_eq first at) refl
      where
        test : (b : Bool) → nat_eq first at ≡ b → IsMarked (slice_set was at false) first ⊎ IsHomeSynced first done (files_of old)
        test true e = inr (subst (λ (n : ℕ). IsHomeSynced n done (files_of old)) (sym ((Decides-eqb first at).0 e)) here)
        test false e = inl (small, get_or-set_other was at first false false (λ same. (let eq : nat_eq first at ≡ true = (Decides-eqb first at).1 same in absurd (cc (sym e ∙ eq)))) ∙ ap (λ (h : List Bool). slice_index_or h first false) alike ∙ mark)

    by : ((new ≡ with_effect old (SyncedFolder (home_at at))) ⊎ ((new ≡ old) × HasNone at (files_of old))) → SyncsHomes homes (slice_set was at false) old new
    by (inl is) = record { done = SyncedFolder (home_at at) ∷ []; only = only_one old new (SyncedFolder (home_at at)) tt is; folders = others (SyncedFolder (home_at at) ∷ []) (inl (Contains-push [] (SyncedFolder (home_at at)))) }
    by (inr (is, none)) = record { done = []; only = only_none old new is; folders = others [] (inr none) }

-- ---- all
none_left : (keys : List (List ℕ)) (name : List ℕ) → length keys ≡ 0 → list_any (same_name name) keys ≡ true → ⊥
none_left [] name none e = cc
none_left (k ∷ keys) name none e = omega (arith, none)

pub all_synced : (noted : List ℕ → Bool) (keys : List (List ℕ)) (homes marked clear : List Bool) (a b c : Past) → SyncsFiles noted (λ q. list_any (same_name q) keys) homes marked a b → length keys ≡ 0 → SyncsHomes marked clear b c
    → ((first : ℕ) → IsMarked clear first → ⊥) → AreSynced noted homes a c
all_synced noted keys homes marked clear a b c one none two unmarked = record {
  files = one.done;
  folders = two.done;
  only = only_then one.done two.done a b c one.only two.only;
  each = λ name e. by name (one.files name e);
  marks = λ first mark. then first (two.folders first (one.marks first mark));
}
  where
    then : (first : ℕ) → (IsMarked clear first ⊎ IsHomeSynced first two.done (files_of b)) → IsHomeSynced first two.done (files_of a)
    then first (inl mark) = absurd (unmarked first mark)
    then first (inr (inl has)) = inl has
    then first (inr (inr is)) = inr (subst (λ (f : Files). HasNone first f) (only_files one.done a b one.only) is)

    by : (name : List ℕ) → ((list_any (same_name name) keys ≡ true) ⊎ (Contains one.done (SyncedFile (place_of name)) × IsMarked marked (first_of name))) → Contains one.done (SyncedFile (place_of name)) × IsHomeSynced (first_of name) two.done (files_of a)
    by name (inl e) = absurd (none_left keys name none e)
    by name (inr (has, mark)) = (has, then (first_of name) (two.folders (first_of name) mark))

-- ---- what a result tells
pub passed_ok : {A : Type 0} (before : Bool) (result : Result A DeviceFault) (answer : A) → Ok answer ≡ result → failed_after before result ≡ before
passed_ok before (Ok a) answer is = refl
passed_ok before (Err fault) answer is = absurd (cc)

pub missing_differs : (fault : DeviceFault) → fault ≡ Missing → fault ≢ Device
missing_differs fault is same = cc

-- a folder that is missing, in which no file is
pub home_missing : {A : Type 0} (at : ℕ) (old mid new : Past) (folder : List ℕ) (result : Result A DeviceFault) → mid ≡ old → new ≡ mid → folder ≡ home_at at → OnOk result (names_in_folder folder (map.keys (files_of mid)) ≡ []) → SyncsHome at old new result
home_missing at old mid new folder (Ok answer) same kept is none =
    inr (kept ∙ same, (λ i. names_in_folder (sym is i) (map.keys (files_of (sym same i)))) ∙ none)
home_missing at old mid new folder (Err fault) same kept is none = inl (kept ∙ same)

pub unmarked_more : (old new : List Bool) (at : ℕ) → ((first : ℕ) → first < at → slice_index_or old first false ≡ false) → slice_index_or new at false ≡ false
    → ((other : ℕ) → slice_index_or old other false ≡ false → slice_index_or new other false ≡ false) → (first : ℕ) → first < at + 1 → slice_index_or new first false ≡ false
unmarked_more old new at so_far here others first less = by (nat_eq first at) refl
  where
    by : (b : Bool) → nat_eq first at ≡ b → slice_index_or new first false ≡ false
    by true e = ap (λ (n : ℕ). slice_index_or new n false) ((Decides-eqb first at).0 e) ∙ here
    by false e = others first (so_far first (grind (arith, nat_tests)))

-- no folder is marked
pub none_marked : (f : Bool → Bool) (homes : List Bool) → f true ≡ true → list_any f homes ≡ false → (first : ℕ) → IsMarked homes first → ⊥
none_marked f homes hits none first (small, mark) = by homes none first mark
  where
    head : (b : Bool) (rest : Bool) → f b || rest ≡ false → b ≡ true → ⊥
    head b rest e is = (let t : f b ≡ true = ap f is ∙ hits in cc)

    tail : (a b : Bool) → a || b ≡ false → b ≡ false
    tail true b e = absurd (cc)
    tail false b e = e

    by : (homes : List Bool) → list_any f homes ≡ false → (first : ℕ) → slice_index_or homes first false ≡ true → ⊥
    by [] e first mark = cc
    by (b ∷ homes) e zero mark = head b (list_any f homes) e mark
    by (b ∷ homes) e (suc first) mark = by homes (tail (f b) (list_any f homes) e) first mark

pub all_unmarked : (homes : List Bool) → ((first : ℕ) → first < 256 → slice_index_or homes first false ≡ false) → (first : ℕ) → IsMarked homes first → ⊥
all_unmarked homes none first (small, mark) = (let is = none first small in cc)

-- the folders were synced after the files
pub synced_then : {A : Type 0} (result : Result A DeviceFault) (noted : List ℕ → Bool) (keys : List (List ℕ)) (homes marked clear : List Bool) (a b c : Past) (before after : Bool) → before ≡ false
    → SyncsFiles noted (λ q. list_any (same_name q) keys) homes marked a b → length keys ≡ 0 → (after ≡ false → SyncsHomes marked clear b c)
    → OnOk result (after ≡ before) → OnOk result ((first : ℕ) → first < 256 → slice_index_or clear first false ≡ false) → OnOk result (AreSynced noted homes a c)
synced_then (Ok answer) noted keys homes marked clear a b c before after unfailed one none two passed unmarked = all_synced noted keys homes marked clear a b c one none (two (passed ∙ unfailed)) (all_unmarked clear unmarked)
synced_then (Err fault) noted keys homes marked clear a b c before after unfailed one none two passed unmarked = tt

-- a sync that failed and was not noted as failed tried nothing
pub untried_err : {A : Type 0} (before after : Bool) (result : Result A DeviceFault) (fault : DeviceFault) (old new : Past) → Err fault ≡ result → after ≡ failed_after before result → after ≡ false → Untried old new result → new ≡ old
untried_err before after (Ok answer) fault old new is noted unfailed untried = absurd (cc)
untried_err before after (Err Device) fault old new is noted unfailed untried = absurd (cc (noted, unfailed))
untried_err before after (Err Unopened) fault old new is noted unfailed untried = untried (λ same. cc)
untried_err before after (Err Missing) fault old new is noted unfailed untried = untried (λ same. cc)
untried_err before after (Err Memory) fault old new is noted unfailed untried = untried (λ same. cc)
untried_err before after (Err Room) fault old new is noted unfailed untried = untried (λ same. cc)

-- the name that was taken out is the last one
at_end : (left : List (List ℕ)) (x : List ℕ) → slice_get (left ++ x ∷ []) (length left) ≡ Some x
at_end [] x = refl
at_end (y ∷ left) x = at_end left x

pub last_out : (keys left : List (List ℕ)) (o : Option (List ℕ)) (name : List ℕ) → keys ≡ left ++ option_to_list o → (0 < length keys → IsSome o) → Some name ≡ slice_get keys (length keys - 1) → keys ≡ left ++ name ∷ []
last_out keys left None name is some last = (let less = slice_get_within keys (length keys - 1) name (sym last) in let none : false ≡ true = some (omega (arith, less)) in absurd (cc))
last_out keys left (Some x) name is some last =
    let end : length keys - 1 ≡ length left = (let whole = length-append left (x ∷ []) in let long : length keys ≡ length (left ++ x ∷ []) = ap length is in omega (arith, whole, long)) in
    let same : Some name ≡ Some x = last ∙ ap (slice_get keys) end ∙ ap (λ (ks : List (List ℕ)). slice_get ks (length left)) is ∙ at_end left x in
    is ∙ ap (λ (n : List ℕ). left ++ n ∷ []) (some_one x name (sym same))
  where
    some_one : (a b : List ℕ) → Some a ≡ Some b → a ≡ b
    some_one a b e = cc

-- what was synced is only a sync
pub only_sync : {A : Type 0} (before after : Bool) (sync : Effect) → IsSync sync → (result : Result A DeviceFault) (old new : Past) → after ≡ failed_after before result → after ≡ false → Does sync old new result → Untried old new result → HasOnlySyncs old new
only_sync before after sync is_sync (Ok answer) old new noted unfailed does untried = (sync ∷ [], only_one old new sync is_sync does)
only_sync before after sync is_sync (Err Device) old new noted unfailed does untried = absurd (cc (noted, unfailed))
only_sync before after sync is_sync (Err Unopened) old new noted unfailed does untried = ([], only_none old new (untried (λ same. cc)))
only_sync before after sync is_sync (Err Missing) old new noted unfailed does untried = ([], only_none old new (untried (λ same. cc)))
only_sync before after sync is_sync (Err Memory) old new noted unfailed does untried = ([], only_none old new (untried (λ same. cc)))
only_sync before after sync is_sync (Err Room) old new noted unfailed does untried = ([], only_none old new (untried (λ same. cc)))

pub no_syncs : (old new : Past) → new ≡ old → HasOnlySyncs old new
no_syncs old new is = ([], only_none old new is)

pub syncs_then : (a b c : Past) → HasOnlySyncs a b → HasOnlySyncs b c → HasOnlySyncs a c
syncs_then a b c one two = (two.0 ++ one.0, only_then one.0 two.0 a b c one.1 two.1)

-- a fault that was not noted as failed
pub unfailed_err : {A : Type 0} (before after : Bool) (result : Result A DeviceFault) → after ≡ failed_after before result → after ≡ false → before ≡ false
unfailed_err before after (Ok answer) noted unfailed = sym noted ∙ unfailed
unfailed_err before after (Err Device) noted unfailed = absurd (cc (noted, unfailed))
unfailed_err before after (Err Unopened) noted unfailed = sym noted ∙ unfailed
unfailed_err before after (Err Missing) noted unfailed = sym noted ∙ unfailed
unfailed_err before after (Err Memory) noted unfailed = sym noted ∙ unfailed
unfailed_err before after (Err Room) noted unfailed = sym noted ∙ unfailed

-- files, and then folders
pub goes_on : (noted left : List ℕ → Bool) (homes marked now : List Bool) (a b c : Past) → SyncsFiles noted left homes marked a b → SyncsHomes marked now b c → SyncsBoth noted left homes now a c
goes_on noted left homes marked now a b c one two = record { between = b; marked = marked; files = one; folders = two }

-- where none is true, none is marked
pub all_false : (n first : ℕ) → slice_index_or (replicate n false) first false ≡ false
all_false zero first = refl
all_false (suc n) zero = refl
all_false (suc n) (suc first) = all_false n first
