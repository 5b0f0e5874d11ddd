-- What lasts, after each call on an object's file.
use Rattle.std.proofs.Common.{◌≡◌, ◌≢◌, inl, inr, ℕ, Bool, true, false, List, [], ◌∷◌, Option, None, Result, Ok, Err, is_err, nat_eq, refl, sym, ◌∙◌, ap, subst}
use Rattle.std.specs.Cmp.Lexicographic.{pointwise}
use Rattle.std.specs.FinMap.{get}
use Rattle.devices.specs.Device.{Effect, Past, Does, Wrote, Moved, Removed, SyncedFile, files_of, with_effect}
use Rattle.devices.specs.Runs.{Runs}
use Rattle.git_name.specs.Name.{IsName}
use Rattle.folder_store.specs.Lasting.{ForgetsFiles, IsLasting, IsPlaceSafe, IsSafe, IsSafeAt, IsUnfailed, Lasts, PutsFile, SweepsFile}
use Rattle.devices.specs.Moments.{Throughout}
use Rattle.folder_store.specs.Place.{part_of, place_of, swept_of}
use Rattle.folder_store.specs.Swept.{put_steps}
use Rattle.folder_store.proofs.LastingLemmas.{IsOff, file_off, lasts_unswept, part_off, part_off_swept, place_off_swept, places_apart, removed_here, safe_at_off, safe_off, swept_apart, swept_off_place}
use Rattle.devices.proofs.MomentLemmas.{does_throughout, run_throughout, throughout_end, throughout_none, throughout_one, throughout_then, KeptBy, KeptByAll, does_keep, run_keeps}
use Rattle.folder_store.proofs.PlaceLemmas.{one_text, same_text}
use Rattle.folder_store.proofs.ContentLemmas.{clash}
use Rattle.folder_store.proofs.StepLemmas.{IsSweptSafe, both_off, off_keeps, own_swept, part_removed, place_keeps, place_part_removed, put_other, put_place, put_swept, removed_unseen, swept_keeps, swept_part_removed, synced_file}

-- ---- calls that fail no sync
unfailed_as : (old new : Past) → IsUnfailed old → new ≡ old → IsUnfailed new
unfailed_as old new unfailed is = subst (λ (p : Past). IsUnfailed p) (sym is) unfailed

wrote_unfailed : (path bytes : List ℕ) → KeptBy IsUnfailed (Wrote path bytes)
wrote_unfailed path bytes = record {
  whole = λ p unfailed. record { files = λ f. unfailed.files f; folders = λ folder. unfailed.folders folder };
  part = λ p part (n, is) unfailed. subst (λ (e : Effect). IsUnfailed (with_effect p e)) (sym is) (record { files = λ f. unfailed.files f; folders = λ folder. unfailed.folders folder });
}

moved_unfailed : (from to : List ℕ) → KeptBy IsUnfailed (Moved from to)
moved_unfailed from to = record {
  whole = λ p unfailed. record { files = λ f. unfailed.files f; folders = λ folder. unfailed.folders folder };
  part = λ p part is unfailed. subst (λ (e : Effect). IsUnfailed (with_effect p e)) (sym is) (record { files = λ f. unfailed.files f; folders = λ folder. unfailed.folders folder });
}

removed_unfailed : (path : List ℕ) → KeptBy IsUnfailed (Removed path)
removed_unfailed path = record {
  whole = λ p unfailed. record { files = λ f. unfailed.files f; folders = λ folder. unfailed.folders folder };
  part = λ p part is unfailed. subst (λ (e : Effect). IsUnfailed (with_effect p e)) (sym is) (record { files = λ f. unfailed.files f; folders = λ folder. unfailed.folders folder });
}

-- ---- a sweep
-- the same call on another name
sweep_other : (n other : List ℕ) → IsName n → IsName other → n ≢ other → KeptBy (IsLasting other) (Moved (place_of n) (swept_of n))
sweep_other n other n_name is_name differ =
    off_keeps other (Moved (place_of n) (swept_of n)) (record { names = tt; off = both_off _ _ (place_off_swept n other) (swept_apart n other n_name is_name differ) })
    (record { names = tt; off = both_off _ _ (places_apart n other n_name is_name differ) (swept_off_place n other) })

sweep_place : (n other : List ℕ) → IsName n → IsName other → n ≢ other → KeptBy (IsPlaceSafe other) (Moved (place_of n) (swept_of n))
sweep_place n other n_name is_name differ =
    place_keeps other (Moved (place_of n) (swept_of n)) (record { names = tt; off = both_off _ _ (places_apart n other n_name is_name differ) (swept_off_place n other) })

sweep_own : (n : List ℕ) → KeptBy (IsLasting n) (Moved (place_of n) (swept_of n))
sweep_own n = record {
  whole = λ p lasts. own_swept p n lasts;
  part = λ p part is lasts. subst (λ (e : Effect). Lasts (with_effect p e) n) (sym is) (own_swept p n lasts);
}

sweep_all : (n other : List ℕ) → IsName n → IsName other → KeptBy (IsLasting other) (Moved (place_of n) (swept_of n))
sweep_all n other n_name is_name = either (pointwise nat_eq n other) refl
  where
    either : (t : Bool) → pointwise nat_eq n other ≡ t → KeptBy (IsLasting other) (Moved (place_of n) (swept_of n))
    either true same = subst (λ (q : List ℕ). KeptBy (IsLasting q) (Moved (place_of n) (swept_of n))) (one_text n other same) (sweep_own n)
    either false differ = sweep_other n other n_name is_name (λ same. clash (pointwise nat_eq n other) (ap (pointwise nat_eq n) (sym same) ∙ same_text n) differ)

pub sweeps_file : {A E : Type 0} (old new : Past) (n path swept : List ℕ) (result : Result A E) → IsName n → path ≡ place_of n → swept ≡ swept_of n → Does (Moved path swept) old new result → SweepsFile n old new
sweeps_file {A} {E} old new n path swept result n_name path_is swept_is moves =
    let does : Does {A = A} {E = E} (Moved (place_of n) (swept_of n)) old new result = subst (λ (e : Effect). Does {A = A} {E = E} e old new result) (λ i. Moved (path_is i) (swept_is i)) moves in
    record {
      unfailed = λ unfailed. does_keep IsUnfailed (Moved (place_of n) (swept_of n)) old new result (moved_unfailed (place_of n) (swept_of n)) does unfailed;
      all = λ other is_name lasts. does_throughout (IsLasting other) (Moved (place_of n) (swept_of n)) old new result (sweep_all n other n_name is_name) does lasts;
      places = λ other is_name differ safe. does_throughout (IsPlaceSafe other) (Moved (place_of n) (swept_of n)) old new result (sweep_place n other n_name is_name differ) does safe;
    }

-- ---- a file that is written
-- the same swept file
abbrev HasSwept : List ℕ → Option (List ℕ) → Past → Type 0
HasSwept other found past = get (files_of past) (swept_of other) ≡ found

has_keeps : (other : List ℕ) (found : Option (List ℕ)) (e : Effect) → IsOff e (swept_of other) → KeptBy (HasSwept other found) e
has_keeps other found e off = record {
  whole = λ p has. file_off p.base p.effects e (swept_of other) off.off ∙ has;
  part = λ p part is has. file_off p.base p.effects part (swept_of other) (part_off e part (swept_of other) is off).off ∙ has;
}

-- the steps with a sync between them
kept_steps : (P : Past → Type 0) (synced : Bool) (part path bytes : List ℕ) → KeptByAll P (Wrote part bytes ∷ Moved part path ∷ []) → KeptBy P (SyncedFile part) → KeptByAll P (put_steps synced part path bytes)
kept_steps P true part path bytes kept sync = (kept.0, (sync, kept.1))
kept_steps P false part path bytes kept sync = kept

module _ {A E : Type 0} (n : List ℕ) (n_name : IsName n) (synced : Bool) (old mid : Past) (bytes part path : List ℕ) (result : Result A E) (part_is : part ≡ part_of n) (path_is : path ≡ place_of n) (runs : Runs {A = A} {E = E} (put_steps synced part path bytes) old mid result) where
  the_run : Runs {A = A} {E = E} (put_steps synced (part_of n) (place_of n) bytes) old mid result
  the_run = subst (λ (es : List Effect). Runs {A = A} {E = E} es old mid result) (λ i. put_steps synced (part_is i) (path_is i) bytes) runs

  keeps : (P : Past → Type 0) → KeptByAll P (Wrote (part_of n) bytes ∷ Moved (part_of n) (place_of n) ∷ []) → KeptBy P (SyncedFile (part_of n)) → P old → P mid
  keeps P kept sync was = run_keeps P (put_steps synced (part_of n) (place_of n) bytes) old mid result (kept_steps P synced (part_of n) (place_of n) bytes kept sync) the_run was

  all_along : (P : Past → Type 0) → KeptByAll P (Wrote (part_of n) bytes ∷ Moved (part_of n) (place_of n) ∷ []) → KeptBy P (SyncedFile (part_of n)) → P old → Throughout P old mid
  all_along P kept sync was = run_throughout P (put_steps synced (part_of n) (place_of n) bytes) old mid result (kept_steps P synced (part_of n) (place_of n) bytes kept sync) the_run was

  same_swept : (other : List ℕ) → get (files_of mid) (swept_of other) ≡ get (files_of old) (swept_of other)
  same_swept other =
      keeps (HasSwept other (get (files_of old) (swept_of other))) (
        has_keeps other _ (Wrote (part_of n) bytes) (record { names = tt; off = part_off_swept n other }),
        (has_keeps other _ (Moved (part_of n) (place_of n)) (record { names = tt; off = both_off _ _ (part_off_swept n other) (place_off_swept n other) }), tt),
      )
      (has_keeps other _ (SyncedFile (part_of n)) (record { names = tt; off = refl })) refl

  pub puts_file : PutsFile n old mid
  puts_file = record {
    others = λ other is_name differ lasts. all_along (IsLasting other) (put_other n other bytes n_name is_name differ) (synced_file other (part_of n)) lasts;
    places = λ other is_name differ safe. all_along (IsPlaceSafe other) (put_place n other bytes n_name is_name differ) (place_keeps other (SyncedFile (part_of n)) (record { names = tt; off = refl })) safe;
    swept = same_swept;
    safe = λ safe. keeps (IsSweptSafe n) (put_swept n n bytes n_name n_name) (swept_keeps n (SyncedFile (part_of n)) (record { names = tt; off = refl })) safe;
  }

-- the part is removed after a failure
pub part_gone : {B F : Type 0} (n : List ℕ) (n_name : IsName n) (old new : Past) (part bytes : List ℕ) (end : Result B F) → part ≡ part_of n → Does (Removed part) old new end → PutsFile n old new
part_gone {B} {F} n n_name old new part bytes end part_is removed =
    let does : Does {A = B} {E = F} (Removed (part_of n)) old new end = subst (λ (p : List ℕ). Does {A = B} {E = F} (Removed p) old new end) part_is removed in
    record {
      others = λ other is_name differ lasts. does_throughout (IsLasting other) (Removed (part_of n)) old new end (part_removed n other bytes n_name is_name) does lasts;
      places = λ other is_name differ safe. does_throughout (IsPlaceSafe other) (Removed (part_of n)) old new end (place_part_removed n other bytes n_name is_name) does safe;
      swept = λ other. does_keep (HasSwept other (get (files_of old) (swept_of other))) (Removed (part_of n)) old new end (has_keeps other _ (Removed (part_of n)) (record { names = tt; off = part_off_swept n other })) does refl;
      safe = λ safe. does_keep (IsSweptSafe n) (Removed (part_of n)) old new end (swept_part_removed n n bytes n_name n_name) does safe;
    }

pub puts_none : (n : List ℕ) (old new : Past) → new ≡ old → PutsFile n old new
puts_none n old new is = record {
  others = λ other is_name differ lasts. throughout_none (IsLasting other) old new is lasts;
  places = λ other is_name differ safe. throughout_none (IsPlaceSafe other) old new is safe;
  swept = λ other. ap (λ (p : Past). get (files_of p) (swept_of other)) is;
  safe = λ safe. subst (λ (p : Past). IsSafeAt (swept_of n) p n) (sym is) safe;
}

pub puts_then : (n : List ℕ) (a b c : Past) → PutsFile n a b → PutsFile n b c → PutsFile n a c
puts_then n a b c one two = record {
  others = λ other is_name differ lasts.
      (let first = one.others other is_name differ lasts in throughout_then (IsLasting other) a b c first (two.others other is_name differ (throughout_end (IsLasting other) a b first)));
  places = λ other is_name differ safe.
      (let first = one.places other is_name differ safe in throughout_then (IsPlaceSafe other) a b c first (two.places other is_name differ (throughout_end (IsPlaceSafe other) a b first)));
  swept = λ other. two.swept other ∙ one.swept other;
  safe = λ safe. two.safe (one.safe safe);
}

-- no sync fails where a file is written without one, or its part is removed
pub wrote_and_moved : {A E : Type 0} (old new : Past) (part path bytes : List ℕ) (result : Result A E) → Runs (Wrote part bytes ∷ Moved part path ∷ []) old new result → IsUnfailed old → IsUnfailed new
wrote_and_moved old new part path bytes result runs unfailed = run_keeps IsUnfailed (Wrote part bytes ∷ Moved part path ∷ []) old new result (wrote_unfailed part bytes, (moved_unfailed part path, tt)) runs unfailed

pub gone_unfailed : {A E : Type 0} (old new : Past) (path : List ℕ) (result : Result A E) → Does (Removed path) old new result → IsUnfailed old → IsUnfailed new
gone_unfailed old new path result does unfailed = does_keep IsUnfailed (Removed path) old new result (removed_unfailed path) does unfailed

pub wrote_unfailed_too : {A E : Type 0} (old new : Past) (path bytes : List ℕ) (result : Result A E) → Does (Wrote path bytes) old new result → IsUnfailed old → IsUnfailed new
wrote_unfailed_too old new path bytes result does unfailed = does_keep IsUnfailed (Wrote path bytes) old new result (wrote_unfailed path bytes) does unfailed

pub moved_unfailed_too : {A E : Type 0} (old new : Past) (from to : List ℕ) (result : Result A E) → Does (Moved from to) old new result → IsUnfailed old → IsUnfailed new
moved_unfailed_too old new from to result does unfailed = does_keep IsUnfailed (Moved from to) old new result (moved_unfailed from to) does unfailed

-- ---- swept files that are removed
pub gone_ok : {A E : Type 0} (e : Effect) (old new : Past) (result : Result A E) → is_err result ≡ false → Does e old new result → new ≡ with_effect old e
gone_ok e old new (Ok answer) is does = does
gone_ok e old new (Err fault) is does = absurd (cc)

pub forgets_none : (old new : Past) → new ≡ old → ForgetsFiles old new
forgets_none old new is = record {
  unfailed = λ unfailed. unfailed_as old new unfailed is;
  places = λ other safe. throughout_none (IsPlaceSafe other) old new is safe;
  none = λ other is_name none. ap (λ (p : Past). get (files_of p) (swept_of other)) is ∙ none;
  lasting = λ other is_name none lasts. throughout_none (IsLasting other) old new is lasts;
}

pub forgets_then : (a b c : Past) → ForgetsFiles a b → ForgetsFiles b c → ForgetsFiles a c
forgets_then a b c one two = record {
  unfailed = λ unfailed. two.unfailed (one.unfailed unfailed);
  places = λ other safe.
      (let first = one.places other safe in throughout_then (IsPlaceSafe other) a b c first (two.places other (throughout_end (IsPlaceSafe other) a b first)));
  none = λ other is_name none. two.none other is_name (one.none other is_name none);
  lasting = λ other is_name none lasts.
      (let first = one.lasting other is_name none lasts in throughout_then (IsLasting other) a b c first (two.lasting other is_name (one.none other is_name none) (throughout_end (IsLasting other) a b first)));
}

module _ (n : List ℕ) (n_name : IsName n) where
  forgets_one : (old : Past) → ForgetsFiles old (with_effect old (Removed (swept_of n)))
  forgets_one old = record {
    unfailed = λ unfailed. (removed_unfailed (swept_of n)).whole old unfailed;
    places = λ other safe.
        throughout_one (IsPlaceSafe other) old (with_effect old (Removed (swept_of n))) (Removed (swept_of n)) refl safe (safe_at_off old (Removed (swept_of n)) (place_of other) other (record { names = tt; off = swept_off_place n other }) safe);
    none = λ other is_name none. still (pointwise nat_eq (swept_of n) (swept_of other)) other refl none;
    lasting = λ other is_name none lasts.
        throughout_one (IsLasting other) old (with_effect old (Removed (swept_of n))) (Removed (swept_of n)) refl lasts
        (lasts_unswept (with_effect old (Removed (swept_of n))) other (still (pointwise nat_eq (swept_of n) (swept_of other)) other refl none) (unseen_or (pointwise nat_eq n other) other is_name refl none lasts.safe));
  }
    where
      still : (b : Bool) (other : List ℕ) → pointwise nat_eq (swept_of n) (swept_of other) ≡ b → get (files_of old) (swept_of other) ≡ None → get (files_of (with_effect old (Removed (swept_of n)))) (swept_of other) ≡ None
      still true other same none = ap (λ (q : List ℕ). get (files_of (with_effect old (Removed (swept_of n)))) q) (sym (one_text (swept_of n) (swept_of other) same)) ∙ removed_here (files_of old) (swept_of n)
      still false other differ none = file_off old.base old.effects (Removed (swept_of n)) (swept_of other) differ ∙ none

      unseen_or : (b : Bool) (other : List ℕ) → IsName other → pointwise nat_eq n other ≡ b → get (files_of old) (swept_of other) ≡ None → IsSafe old other → IsSafe (with_effect old (Removed (swept_of n))) other
      unseen_or true other is_name same none safe =
          subst (λ (q : List ℕ). IsSafe (with_effect old (Removed (swept_of q))) other) (sym (one_text n other same)) (removed_unseen old other safe (swept_of other) none)
      unseen_or false other is_name differ none safe =
          safe_off old (Removed (swept_of n)) other
          (record { names = tt; off = swept_apart n other n_name is_name (λ same. clash (pointwise nat_eq n other) (ap (pointwise nat_eq n) (sym same) ∙ same_text n) differ) })
          (record { names = tt; off = swept_off_place n other }) safe

  pub forgets : {A E : Type 0} (old new : Past) (result : Result A E) → Does (Removed (swept_of n)) old new result → ForgetsFiles old new
  forgets old new (Ok answer) is = subst (λ (p : Past). ForgetsFiles old p) (sym is) (forgets_one old)
  forgets old new (Err fault) (inl is) = forgets_none old new is
  forgets old new (Err fault) (inr (part, is_part, is)) = subst (λ (p : Past). ForgetsFiles old p) (sym (is ∙ ap (with_effect old) is_part)) (forgets_one old)
