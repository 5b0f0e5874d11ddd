-- What the calls of a folder leave of what lasts.
use Rattle.std.proofs.Common.{◌≡◌, ◌≢◌, ◌⊎◌, inl, inr, ℕ, Bool, true, false, List, [], ◌∷◌, Option, Some, None, is_some, Result, Ok, Err, OnOk, All, refl, sym, ◌∙◌, ap, subst, take, codes, arith, nat_eq}
use Rattle.std.specs.Cmp.Lexicographic.{pointwise}
use Rattle.std.specs.FinMap.{get}
use Rattle.std.proofs.lemmas.List.Elements.{All-nil, All-cons, All-tail}
use Rattle.devices.specs.Crash.{File, Stands, names_after}
use Rattle.devices.specs.Device.{Effect, Files, Past, SyncedFolder, files_of}
use Rattle.devices.specs.Runs.{Runs}
use Rattle.git_name.specs.Name.{IsName}
use Rattle.folder_store.specs.Calls.{Call, CallsAll, CallsSparing, Calls, Forgets, IsAnswered, IsTold, LeaveAll, Puts, Reads, Removes, Spares, Standing, Syncs, standing}
use Rattle.folder_store.specs.Lasting.{as_read, ForgetsFiles, IsLasting, IsPlaceSafe, IsSafe, IsSafeAt, IsUnfailed, Lasts, PutsFile, SweepsFile}
use Rattle.devices.specs.Moments.{HoldsAtEach, Throughout, past_with}
use Rattle.folder_store.specs.Place.{home_with, place_of, swept_of}
use Rattle.folder_store.specs.Swept.{is_whole, move_syncs, put_back}
use Rattle.folder_store.specs.Synced.{HasOnlySyncs, IsSync, OnlySyncs, SyncsBoth}
use Rattle.folder_store.proofs.LastingLemmas.{lasts_by_place, safe_by_swept}
use Rattle.folder_store.proofs.ContentLemmas.{clash}
use Rattle.devices.proofs.BeforeLemmas.{seen_may}
use Rattle.devices.proofs.MomentLemmas.{run_throughout, throughout_end, throughout_map, throughout_none, throughout_then, KeptByAll}
use Rattle.folder_store.proofs.PlaceLemmas.{one_text, same_text}
use Rattle.folder_store.proofs.StepLemmas.{place_keeps, synced_folder, unseen}
use Rattle.folder_store.proofs.SyncLemmas.{only_files, syncs_then}
use Rattle.folder_store.proofs.SyncedLemmas.{alone_safe, syncs_safe, syncs_sure, syncs_throughout, syncs_unfailed}

same_or : (n q : List ℕ) → (n ≡ q) ⊎ (n ≢ q)
same_or n q = by (pointwise nat_eq n q) refl
  where
    by : (b : Bool) → pointwise nat_eq n q ≡ b → (n ≡ q) ⊎ (n ≢ q)
    by true same = inl (one_text n q same)
    by false differ = inr (λ same. clash (pointwise nat_eq n q) (ap (pointwise nat_eq n) (sym same) ∙ same_text n) differ)

-- the call puts nothing
abbrev IsOther : Call → Type 0
IsOther Reads = Unit {0}
IsOther (Puts name bytes) = ⊥
IsOther (Removes name) = Unit {0}
IsOther Syncs = Unit {0}
IsOther Forgets = Unit {0}

-- ---- a call that changes nothing
pub call_none : (call : Call) (old new : Standing) → new ≡ old → Calls call old new
call_none call old new is = subst (λ (s : Standing). Calls call old s) (sym is) (record {
  failed = λ unfailed. unfailed;
  unfailed = λ _ unfailed. unfailed;
  told = λ _ told. told;
  places = λ _ name is_name leaves safe. throughout_none (IsPlaceSafe name) old.past old.past refl safe;
  again = λ name bytes is is_name told unfailed none lasts. lasts.safe;
  lasting = λ _ name is_name spares lasts. throughout_none (IsLasting name) old.past old.past refl lasts;
})

-- which file was put
one_put : (n bytes name other : List ℕ) → Puts n bytes ≡ Puts name other → n ≡ name
one_put n bytes name other is = cc

no_put : {P : Type 0} (name bytes : List ℕ) (call : Call) → IsOther call → call ≡ Puts name bytes → P
no_put {P} name bytes call other is = absurd (subst IsOther is other)

pub call_as : (call : Call) (old new before after : Standing) → before ≡ old → after ≡ new → Calls call old new → Calls call before after
call_as call old new before after is_old is_new calls = subst (λ (s : Standing). Calls call s after) (sym is_old) (subst (λ (s : Standing). Calls call old s) (sym is_new) calls)

-- ---- a file that is put
-- a name that lasts has a file at one of its paths
not_gone : {P : Type 0} (past : Past) (name : List ℕ) → IsSafe past name → get (files_of past) (swept_of name) ≡ None → get (files_of past) (place_of name) ≡ None → P
not_gone past name safe no_swept none =
    let bad : is_whole name (put_back name (as_read None) (as_read None)) ≡ true =
    safe (names_after past.base past.effects) (seen_may past.base past.effects) None None
    (subst (λ (o : Option File). Stands past.base past.effects o None) (sym (unseen past (swept_of name) no_swept)) refl)
    (subst (λ (o : Option File). Stands past.base past.effects o None) (sym (unseen past (place_of name) none)) refl) in
    absurd (cc)

-- where there is no swept file
pub put_call : (n bytes : List ℕ) (old new : Past) (has_swept has_failed : Bool) → has_swept ≡ false → PutsFile n old new → (IsUnfailed old → IsUnfailed new) → Calls (Puts n bytes) (standing old has_swept has_failed) (standing new has_swept has_failed)
put_call n bytes old new has_swept has_failed no_swept puts still = record {
  failed = λ unfailed. unfailed;
  unfailed = λ _ unfailed. still unfailed;
  told = λ _ told none name is_name. puts.swept name ∙ told none name is_name;
  places = λ _ name is_name differ safe. puts.places name is_name differ safe;
  again = λ name other is is_name told unfailed none lasts. not_gone old name lasts.safe (told no_swept name is_name) none;
  lasting = λ _ name is_name spares lasts. by name is_name spares lasts;
}
  where
    by : (name : List ℕ) → IsName name → Spares (Puts n bytes) (standing old has_swept has_failed) name → Lasts old name → Throughout (IsLasting name) old new
    by name is_name (inl differ) lasts = puts.others name is_name differ lasts
    by name is_name (inr (none, whole, told, unfailed)) lasts = not_gone old name lasts.safe (told no_swept name is_name) none

syncs_keep : (P : Past → Type 0) (name : List ℕ) (has : Bool) → ((folder : List ℕ) → KeptByAll P (SyncedFolder folder ∷ [])) → KeptByAll P (move_syncs name has)
syncs_keep P name true kept = ((kept (codes "swept/")).0, ((kept (home_with (take 1 name))).0, tt))
syncs_keep P name false kept = tt

-- the move of a swept file is synced
module _ {A E : Type 0} (n : List ℕ) (old mid : Past) (has : Bool) (result : Result A E) (runs : Runs {A = A} {E = E} (move_syncs n has) old mid result) where
  pub move_lasts : (name : List ℕ) → Lasts old name → Throughout (IsLasting name) old mid
  move_lasts name lasts = run_throughout (IsLasting name) (move_syncs n has) old mid result (syncs_keep (IsLasting name) n has (λ folder. (synced_folder name folder, tt))) runs lasts

  pub move_places : (name : List ℕ) → IsPlaceSafe name old → Throughout (IsPlaceSafe name) old mid
  move_places name safe =
      run_throughout (IsPlaceSafe name) (move_syncs n has) old mid result (syncs_keep (IsPlaceSafe name) n has (λ folder. (place_keeps name (SyncedFolder folder) (record { names = tt; off = refl }), tt))) runs safe

-- the same run, where it is known whether there is a swept file
pub run_as : {A : Type 0} (E : Type 0) (n : List ℕ) (old mid : Past) (has b : Bool) (answer : A) → has ≡ b → Runs {A = A} {E = E} (move_syncs n has) old mid (Ok answer) → Runs {A = A} {E = E} (move_syncs n b) old mid (Ok answer)
run_as {A} E n old mid has b answer is runs = subst (λ (c : Bool). Runs {A = A} {E = E} (move_syncs n c) old mid (Ok answer)) is runs

-- the move failed
pub move_call : {A E : Type 0} (n bytes : List ℕ) (old mid : Past) (failed fails has : Bool) (result : Result A E) → Runs (move_syncs n has) old mid result → (fails ≡ false → HasOnlySyncs old mid) → (fails ≡ false → failed ≡ false)
    → Calls (Puts n bytes) (standing old true failed) (standing mid true fails)
move_call {A} {E} n bytes old mid failed fails has result runs only before = record {
  failed = before;
  unfailed = λ none unfailed. (let syncs = only none in syncs_unfailed old mid syncs.0 syncs.1 unfailed);
  told = λ _ told none. absurd (cc);
  places = λ _ name is_name differ safe. move_places {A = A} {E = E} n old mid has result runs name safe;
  again = λ name other is is_name told unfailed none lasts. (throughout_end (IsLasting name) old mid (move_lasts {A = A} {E = E} n old mid has result runs name lasts)).safe;
  lasting = λ _ name is_name spares lasts. move_lasts {A = A} {E = E} n old mid has result runs name lasts;
}

-- no file of the name was swept
pub unswept_call : (n bytes : List ℕ) (old mid new : Past) (failed fails has : Bool) → has ≡ is_some (get (files_of old) (swept_of n)) → has ≡ false → mid ≡ old → (fails ≡ false → failed ≡ false) → PutsFile n mid new → (IsUnfailed mid → IsUnfailed new)
    → Calls (Puts n bytes) (standing old true failed) (standing new true fails)
unswept_call n bytes old mid new failed fails has is none_has same before puts still = record {
  failed = before;
  unfailed = λ none unfailed. still (subst (λ (p : Past). IsUnfailed p) (sym same) unfailed);
  told = λ _ told none. absurd (cc);
  places = λ _ name is_name differ safe. subst (λ (p : Past). Throughout (IsPlaceSafe name) p new) same (puts.places name is_name differ (subst (λ (p : Past). IsPlaceSafe name p) (sym same) safe));
  again = λ name other is is_name told unfailed none lasts. gone name (one_put n bytes name other is) none lasts;
  lasting = λ _ name is_name spares lasts. by name is_name spares lasts;
}
  where
    no_file : (o : Option (List ℕ)) → false ≡ is_some o → o ≡ None
    no_file None is = refl
    no_file (Some x) is = absurd (cc)

    gone : {P : Type 0} (name : List ℕ) → n ≡ name → get (files_of old) (place_of name) ≡ None → Lasts old name → P
    gone name n_is none lasts = not_gone old name lasts.safe (ap (λ (q : List ℕ). get (files_of old) (swept_of q)) (sym n_is) ∙ no_file (get (files_of old) (swept_of n)) (sym none_has ∙ is)) none

    other_lasts : (name : List ℕ) → IsName name → n ≢ name → Lasts old name → Throughout (IsLasting name) old new
    other_lasts name is_name differ lasts = subst (λ (p : Past). Throughout (IsLasting name) p new) same (puts.others name is_name differ (subst (λ (p : Past). Lasts p name) (sym same) lasts))

    by : (name : List ℕ) → IsName name → Spares (Puts n bytes) (standing old true failed) name → Lasts old name → Throughout (IsLasting name) old new
    by name is_name (inl differ) lasts = other_lasts name is_name differ lasts
    by name is_name (inr (none, whole, told, unfailed)) lasts = either (same_or n name)
      where
        either : ((n ≡ name) ⊎ (n ≢ name)) → Throughout (IsLasting name) old new
        either (inl n_is) = gone name n_is none lasts
        either (inr differ) = other_lasts name is_name differ lasts

-- what lasted is safe as the swept file
again_safe : {A : Type 0} (E : Type 0) (old mid : Past) (name : List ℕ) (answer : A) → IsName name → Runs {A = A} {E = E} (move_syncs name true) old mid (Ok answer)
    → IsUnfailed old → get (files_of old) (place_of name) ≡ None → IsSafe old name → IsSafeAt (swept_of name) mid name
again_safe E old mid name answer is_name runs unfailed none safe =
    alone_safe old mid (SyncedFolder (home_with (take 1 name)) ∷ SyncedFolder (codes "swept/") ∷ []) name is_name
    (record { syncs = All-cons IsSync (SyncedFolder (home_with (take 1 name))) (SyncedFolder (codes "swept/") ∷ []) tt (All-cons IsSync (SyncedFolder (codes "swept/")) [] tt (All-nil IsSync)); past = runs })
    (0, omega arith, refl) (unfailed.folders (home_with (take 1 name))) none safe

-- a file is put where one of its name was swept
pub again_call : {A : Type 0} (E : Type 0) (n bytes : List ℕ) (old mid new : Past) (failed between fails : Bool) (answer : A) → Runs {A = A} {E = E} (move_syncs n true) old mid (Ok answer) → (between ≡ false → HasOnlySyncs old mid) → (between ≡ false → failed ≡ false)
    → (fails ≡ false → between ≡ false) → PutsFile n mid new → (fails ≡ false → IsUnfailed mid → IsUnfailed new)
    → (IsUnfailed mid → get (files_of mid) (place_of n) ≡ None → is_whole n (Some bytes) ≡ true → IsSafeAt (swept_of n) mid n → Lasts mid n → Throughout (IsLasting n) mid new) → Calls (Puts n bytes) (standing old true failed) (standing new true fails)
again_call {A} E n bytes old mid new failed between fails answer runs only first then puts still own = record {
  failed = λ none. first (then none);
  unfailed = λ none unfailed. (let syncs = only (then none) in still none (syncs_unfailed old mid syncs.0 syncs.1 unfailed));
  told = λ _ told none. absurd (cc);
  places = λ _ name is_name differ safe.
      (let first = move_places {A = A} {E = E} n old mid true (Ok answer) runs name safe in throughout_then (IsPlaceSafe name) old mid new first (puts.places name is_name differ (throughout_end (IsPlaceSafe name) old mid first)));
  again = λ name other is is_name told unfailed none lasts. own_safe name (one_put n bytes name other is) is_name none unfailed lasts;
  lasting = λ _ name is_name spares lasts. by name is_name spares lasts;
}
  where
    only_these : OnlySyncs (SyncedFolder (home_with (take 1 n)) ∷ SyncedFolder (codes "swept/") ∷ []) old mid
    only_these = record { syncs = All-cons IsSync (SyncedFolder (home_with (take 1 n))) (SyncedFolder (codes "swept/") ∷ []) tt (All-cons IsSync (SyncedFolder (codes "swept/")) [] tt (All-nil IsSync)); past = runs }

    own_safe : (name : List ℕ) → n ≡ name → IsName name → get (files_of old) (place_of name) ≡ None → IsUnfailed old → Lasts old name → IsSafe new name
    own_safe name same =
        subst (λ (q : List ℕ). IsName q → get (files_of old) (place_of q) ≡ None → IsUnfailed old → Lasts old q → IsSafe new q) same
        (λ n_name none unfailed lasts. safe_by_swept new n (puts.safe (again_safe E old mid n answer n_name runs unfailed none lasts.safe)))

    own_lasts : IsName n → get (files_of old) (place_of n) ≡ None → is_whole n (Some bytes) ≡ true → IsUnfailed old → Lasts old n → Throughout (IsLasting n) old new
    own_lasts n_name none whole unfailed lasts =
        let first = move_lasts {A = A} {E = E} n old mid true (Ok answer) runs n lasts in
        throughout_then (IsLasting n) old mid new first
        (own (syncs_unfailed old mid (SyncedFolder (home_with (take 1 n)) ∷ SyncedFolder (codes "swept/") ∷ []) only_these unfailed)
        (ap (λ (f : Files). get f (place_of n)) (only_files (SyncedFolder (home_with (take 1 n)) ∷ SyncedFolder (codes "swept/") ∷ []) old mid only_these) ∙ none) whole (again_safe E old mid n answer n_name runs unfailed none lasts.safe) (throughout_end (IsLasting n) old mid first))

    other_lasts : (name : List ℕ) → IsName name → n ≢ name → Lasts old name → Throughout (IsLasting name) old new
    other_lasts name is_name differ lasts =
        (let first = move_lasts {A = A} {E = E} n old mid true (Ok answer) runs name lasts in throughout_then (IsLasting name) old mid new first (puts.others name is_name differ (throughout_end (IsLasting name) old mid first)))

    by : (name : List ℕ) → IsName name → Spares (Puts n bytes) (standing old true failed) name → Lasts old name → Throughout (IsLasting name) old new
    by name is_name (inl differ) lasts = other_lasts name is_name differ lasts
    by name is_name (inr (none, whole, told, unfailed)) lasts = either (same_or n name)
      where
        either : ((n ≡ name) ⊎ (n ≢ name)) → Throughout (IsLasting name) old new
        either (inl same) =
            subst (λ (q : List ℕ). IsName q → get (files_of old) (place_of q) ≡ None → is_whole q (Some bytes) ≡ true → Lasts old q → Throughout (IsLasting q) old new) same (λ n_name none whole lasts. own_lasts n_name none whole unfailed lasts) is_name none whole lasts
        either (inr differ) = other_lasts name is_name differ lasts

-- ---- a file that is removed
pub remove_call : (n : List ℕ) (old new : Past) (had has_failed : Bool) → SweepsFile n old new → Calls (Removes n) (standing old had has_failed) (standing new true has_failed)
remove_call n old new had has_failed sweeps = record {
  failed = λ unfailed. unfailed;
  unfailed = λ _ unfailed. sweeps.unfailed unfailed;
  told = λ _ told none. absurd (cc);
  places = λ _ name is_name differ safe. sweeps.places name is_name differ safe;
  again = λ name bytes is is_name told unfailed none lasts. no_put name bytes (Removes n) tt is;
  lasting = λ _ name is_name spares lasts. sweeps.all name is_name lasts;
}

-- ---- syncs
last_after : (old new : Past) (done : List Effect) (name : List ℕ) → OnlySyncs done old new → Lasts old name → Lasts new name
last_after old new done name only lasts = record {
  safe = syncs_safe old new done name only lasts.safe;
  both = λ older newer s t.
      syncs_sure old new done (place_of name) name only (lasts.both older newer (ap (λ (f : Files). get f (swept_of name)) (sym (only_files done old new only)) ∙ s) (ap (λ (f : Files). get f (place_of name)) (sym (only_files done old new only)) ∙ t));
}

last_each : (old : Past) (name : List ℕ) → Lasts old name → (done : List Effect) → All IsSync done → HoldsAtEach (IsLasting name) old done
last_each old name lasts [] all = lasts
last_each old name lasts (sync ∷ done) all =
    (last_after old (past_with old (sync ∷ done)) (sync ∷ done) name (record { syncs = all; past = refl }) lasts, last_each old name lasts done (All-tail IsSync sync done all))

pub sync_call : (old new : Past) (has_swept failed fails : Bool) → (fails ≡ false → failed ≡ false) → (fails ≡ false → HasOnlySyncs old new) → Calls Syncs (standing old has_swept failed) (standing new has_swept fails)
sync_call old new has_swept failed fails before only = record {
  failed = before;
  unfailed = λ none unfailed. (let syncs = only none in syncs_unfailed old new syncs.0 syncs.1 unfailed);
  told = λ answered told none name is_name. ap (λ (f : Files). get f (swept_of name)) (same answered) ∙ told none name is_name;
  places = λ answered name is_name leaves safe. (let syncs = only (answered refl) in syncs_throughout old new syncs.0 name syncs.1 safe);
  again = λ name bytes is is_name told unfailed none lasts. no_put name bytes Syncs tt is;
  lasting = λ answered name is_name spares lasts. by answered name lasts;
}
  where
    same : IsAnswered Syncs (standing new has_swept fails) → files_of new ≡ files_of old
    same answered = (let syncs = only (answered refl) in only_files syncs.0 old new syncs.1)

    by : IsAnswered Syncs (standing new has_swept fails) → (name : List ℕ) → Lasts old name → Throughout (IsLasting name) old new
    by answered name lasts = (let syncs = only (answered refl) in record { done = syncs.0; all = syncs.1.past; each = last_each old name lasts syncs.0 syncs.1.syncs })

pub both_syncs : (noted left : List ℕ → Bool) (homes now : List Bool) (old new : Past) → SyncsBoth noted left homes now old new → HasOnlySyncs old new
both_syncs noted left homes now old new both = syncs_then old both.between new (both.files.done, both.files.only) (both.folders.done, both.folders.only)

-- ---- swept files that are removed
pub forget_call : (old new : Past) (had has has_failed : Bool) → ForgetsFiles old new
    → (has ≡ false → (had ≡ false) ⊎ ((name : List ℕ) → IsName name → get (files_of new) (swept_of name) ≡ None)) → Calls Forgets (standing old had has_failed) (standing new has has_failed)
forget_call old new had has has_failed forgets gone = record {
  failed = λ unfailed. unfailed;
  unfailed = λ _ unfailed. forgets.unfailed unfailed;
  told = λ _ told none name is_name. in_all told name is_name (gone none);
  places = λ _ name is_name leaves safe. forgets.places name safe;
  again = λ name bytes is is_name told unfailed none lasts. no_put name bytes Forgets tt is;
  lasting = λ _ name is_name spares lasts. by name is_name spares lasts;
}
  where
    in_all : IsTold (standing old had has_failed) → (name : List ℕ) → IsName name → (had ≡ false) ⊎ ((name : List ℕ) → IsName name → get (files_of new) (swept_of name) ≡ None) → get (files_of new) (swept_of name) ≡ None
    in_all told name is_name (inl none) = forgets.none name is_name (told none name is_name)
    in_all told name is_name (inr none) = none name is_name

    by : (name : List ℕ) → IsName name → Spares Forgets (standing old had has_failed) name → Lasts old name → Throughout (IsLasting name) old new
    by name is_name (inl none) lasts = forgets.lasting name is_name none lasts
    by name is_name (inr safe) lasts = throughout_map (IsPlaceSafe name) (IsLasting name) (λ past kept. lasts_by_place past name kept) old new (forgets.places name safe)

pub forgot_call : {A E : Type 0} (old new : Past) (had has_failed : Bool) (result : Result A E) (answer : A) → result ≡ Ok answer → ForgetsFiles old new → OnOk result ((name : List ℕ) → IsName name → get (files_of new) (swept_of name) ≡ None)
    → Calls Forgets (standing old had has_failed) (standing new false has_failed)
forgot_call old new had has_failed (Ok a) answer is forgets gone = forget_call old new had false has_failed forgets (λ _. inr gone)
forgot_call old new had has_failed (Err fault) answer is forgets gone = absurd (cc)

-- ---- calls one after another
-- none failed before one that did not fail
before_all : (calls : List Call) (old new : Standing) → CallsAll calls old new → new.has_failed ≡ false → old.has_failed ≡ false
before_all [] old new is none = ap (λ (s : Standing). s.has_failed) (sym is) ∙ none
before_all (call ∷ calls) old new (mid, one, rest) none = one.failed (before_all calls mid new rest none)

pub left_safe : (calls : List Call) (old new : Standing) (name : List ℕ) → IsName name → CallsAll calls old new → new.has_failed ≡ false → LeaveAll calls name → IsPlaceSafe name old.past → Throughout (IsPlaceSafe name) old.past new.past
left_safe [] old new name is_name is none leave safe = throughout_none (IsPlaceSafe name) old.past new.past (ap (λ (s : Standing). s.past) is) safe
left_safe (call ∷ calls) old new name is_name (mid, one, rest) none (leaves, leave) safe =
    let first = one.places (λ _. before_all calls mid new rest none) name is_name leaves safe in
    throughout_then (IsPlaceSafe name) old.past mid.past new.past first (left_safe calls mid new name is_name rest none leave (throughout_end (IsPlaceSafe name) old.past mid.past first))

sparing_failed : (name : List ℕ) (calls : List Call) (old new : Standing) → CallsSparing name calls old new → new.has_failed ≡ false → old.has_failed ≡ false
sparing_failed name [] old new is none = ap (λ (s : Standing). s.has_failed) (sym is) ∙ none
sparing_failed name (call ∷ calls) old new (mid, one, spares, rest) none = one.failed (sparing_failed name calls mid new rest none)

pub still_lasts : (calls : List Call) (old new : Standing) (name : List ℕ) → IsName name → CallsSparing name calls old new → new.has_failed ≡ false → IsTold old → IsUnfailed old.past → Lasts old.past name → Throughout (IsLasting name) old.past new.past
still_lasts [] old new name is_name is none told unfailed lasts = throughout_none (IsLasting name) old.past new.past (ap (λ (s : Standing). s.past) is) lasts
still_lasts (call ∷ calls) old new name is_name (mid, one, spares, rest) none told unfailed lasts =
    let unfailed_mid = sparing_failed name calls mid new rest none in
    let first = one.lasting (λ _. unfailed_mid) name is_name (spares told unfailed) lasts in
    throughout_then (IsLasting name) old.past mid.past new.past first
    (still_lasts calls mid new name is_name rest none (one.told (λ _. unfailed_mid) told) (one.unfailed unfailed_mid unfailed) (throughout_end (IsLasting name) old.past mid.past first))
