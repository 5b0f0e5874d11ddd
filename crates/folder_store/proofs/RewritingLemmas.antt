-- What lasts of a file that is written where an older one of its name was swept.
use Rattle.std.proofs.Common.{◌≡◌, ◌⊎◌, inl, inr, ℕ, suc, Bool, true, cond, List, ◌∷◌, Option, Some, None, Result, Ok, Err, length, refl, sym, ◌∙◌, ap, subst, take}
use Rattle.std.specs.FinMap.{get}
use Rattle.std.proofs.lemmas.Bool.Decides.{Decides-eqb}
use Rattle.devices.specs.Crash.{File, MayBytes, moved, names_after, bytes_after, set}
use Rattle.devices.specs.Device.{Effect, Past, Does, Wrote, Moved, Removed, SyncedFile, FailedFile, files_of, with_effect}
use Rattle.devices.specs.Runs.{Runs}
use Rattle.git_name.specs.Name.{IsName}
use Rattle.folder_store.specs.Lasting.{as_read, HasSureBytes, IsLasting, IsSafeAt, IsUnfailed, Lasts}
use Rattle.devices.specs.Moments.{Throughout}
use Rattle.folder_store.specs.Place.{part_of, place_of, swept_of}
use Rattle.folder_store.specs.Swept.{is_whole, put_steps}
use Rattle.folder_store.proofs.LastingLemmas.{IsOff, file_off, none_or, part_off_place, part_off_swept, safe_by_swept, sure_off}
use Rattle.devices.proofs.SeenLemmas.{set_here}
use Rattle.devices.proofs.MomentLemmas.{does_throughout, throughout_end, throughout_map, throughout_none, throughout_one, throughout_then, KeptBy}
use Rattle.folder_store.proofs.PlaceLemmas.{same_text}
use Rattle.folder_store.proofs.StepLemmas.{put_swept, swept_keeps}

-- ---- a part that was synced
module _ (old : Past) (name part bytes : List ℕ) where
  abbrev made : File
  made = (part, suc (length old.effects))

  made_there : names_after old.base (SyncedFile part ∷ Wrote part bytes ∷ old.effects) part ≡ Some made
  made_there = set_here (names_after old.base old.effects) part part (Some made) (same_text part)

  -- its bytes are those that were written
  made_bytes : IsUnfailed old → (x : List ℕ) → MayBytes old.base (SyncedFile part ∷ Wrote part bytes ∷ old.effects) made x → x ≡ bytes
  made_bytes unfailed x may =
      may.1 made_there (unfailed.files made) ∙ ap (λ (b : Bool). cond b bytes (bytes_after old.base old.effects made)) ((Decides-eqb (suc (length old.effects)) (suc (length old.effects))).1 refl)

the_file : (a f : File) (P : File → Type 0) → Some a ≡ Some f → P a → P f
the_file a f P is holds = subst P (let same : a ≡ f = cc in same) holds

-- a file that was moved keeps its bytes
moved_sure : (p : Past) (from to name : List ℕ) (f : File) → names_after p.base p.effects from ≡ Some f → ((x : List ℕ) → MayBytes p.base p.effects f x → is_whole name (as_read (Some x)) ≡ true) → HasSureBytes to (with_effect p (Moved from to)) name
moved_sure p from to name f at_from sure g at_to x may =
    the_file f g (λ h. (y : List ℕ) → MayBytes p.base p.effects h y → is_whole name (as_read (Some y)) ≡ true) (sym there ∙ at_to) sure x may
  where
    there : names_after p.base (Moved from to ∷ p.effects) to ≡ Some f
    there =
        ap (λ (o : Option File). moved (names_after p.base p.effects) from to o to) at_from
        ∙ set_here (set (names_after p.base p.effects) from None) to to (Some f) (same_text to)

-- ---- the whole call
-- no file is at the place, or its bytes are sure
abbrev IsOwnSure : List ℕ → Past → Type 0
IsOwnSure name past = (get (files_of past) (place_of name) ≡ None) ⊎ HasSureBytes (place_of name) past name

own_off : (name : List ℕ) (p : Past) (e : Effect) → IsOff e (place_of name) → IsOwnSure name p → IsOwnSure name (with_effect p e)
own_off name p e off (inl none) = inl (file_off p.base p.effects e (place_of name) off.off ∙ none)
own_off name p e off (inr sure) = inr (sure_off p e (place_of name) name off sure)

-- the same, and the swept file is safe
abbrev IsOwn : List ℕ → Past → Type 0
IsOwn name past = IsOwnSure name past × IsSafeAt (swept_of name) past name

lasts_if : (name : List ℕ) (past : Past) → IsOwn name past → Lasts past name
lasts_if name past (inl gone, safe) = record { safe = safe_by_swept past name safe; both = λ older newer s t. none_or (get (files_of past) (place_of name)) newer gone t }
lasts_if name past (inr sure, safe) = record { safe = safe_by_swept past name safe; both = λ older newer s t. sure }

-- a sync of the part, which was answered or failed, and its removal
kept_off : (name : List ℕ) (e : Effect) → IsOff e (place_of name) → IsOff e (swept_of name) → (p : Past) → IsOwn name p → IsOwn name (with_effect p e)
kept_off name e there swept p (own, safe) = (own_off name p e there own, (swept_keeps name e swept).whole p safe)

module _ {A E : Type 0} (name : List ℕ) (is_name : IsName name) (old mid : Past) (bytes part path : List ℕ) (result : Result A E) (part_is : part ≡ part_of name) (path_is : path ≡ place_of name) (runs : Runs {A = A} {E = E} (put_steps true part path bytes) old mid result)
    (unfailed : IsUnfailed old) (none : get (files_of old) (place_of name) ≡ None) (whole : is_whole name (as_read (Some bytes)) ≡ true) (safe : IsSafeAt (swept_of name) old name) where
  abbrev wrote : List ℕ → Past
  wrote some = with_effect old (Wrote (part_of name) some)

  abbrev synced : Past
  synced = with_effect (wrote bytes) (SyncedFile (part_of name))

  abbrev failed : Past
  failed = with_effect (wrote bytes) (FailedFile (part_of name))

  abbrev there : Past
  there = with_effect synced (Moved (part_of name) (place_of name))

  at_wrote : (some : List ℕ) → IsOwn name (wrote some)
  at_wrote some =
      kept_off name (Wrote (part_of name) some) (record { names = tt; off = part_off_place name name is_name is_name }) (record { names = tt; off = part_off_swept name name }) old (inl none, safe)

  at_synced : IsOwn name synced
  at_synced = kept_off name (SyncedFile (part_of name)) (record { names = tt; off = refl }) (record { names = tt; off = refl }) (wrote bytes) (at_wrote bytes)

  at_failed : IsOwn name failed
  at_failed = kept_off name (FailedFile (part_of name)) (record { names = tt; off = refl }) (record { names = tt; off = refl }) (wrote bytes) (at_wrote bytes)

  sure_there : HasSureBytes (place_of name) there name
  sure_there =
      moved_sure synced (part_of name) (place_of name) name (made old name (part_of name) bytes) (made_there old name (part_of name) bytes)
      (λ x may. ap (λ (y : List ℕ). is_whole name (as_read (Some y))) (made_bytes old name (part_of name) bytes unfailed x may) ∙ whole)

  at_there : IsOwn name there
  at_there = (inr sure_there, (put_swept name name bytes is_name is_name).1.0.whole synced at_synced.1)

  to_wrote : (some : List ℕ) → Throughout (IsOwn name) old (wrote some)
  to_wrote some = throughout_one (IsOwn name) old (wrote some) (Wrote (part_of name) some) refl (inl none, safe) (at_wrote some)

  to_synced : Throughout (IsOwn name) old synced
  to_synced = throughout_then (IsOwn name) old (wrote bytes) synced (to_wrote bytes) (throughout_one (IsOwn name) (wrote bytes) synced (SyncedFile (part_of name)) refl (at_wrote bytes) at_synced)

  to_failed : Throughout (IsOwn name) old failed
  to_failed = throughout_then (IsOwn name) old (wrote bytes) failed (to_wrote bytes) (throughout_one (IsOwn name) (wrote bytes) failed (FailedFile (part_of name)) refl (at_wrote bytes) at_failed)

  to_there : Throughout (IsOwn name) old there
  to_there = throughout_then (IsOwn name) old synced there to_synced (throughout_one (IsOwn name) synced there (Moved (part_of name) (place_of name)) refl at_synced at_there)

  abbrev To : Past → Type 0
  To past = Throughout (IsOwn name) old past

  by_run : (r : Result A E) → Runs {A = A} {E = E} (put_steps true (part_of name) (place_of name) bytes) old mid r → To mid
  by_run (Ok answer) is = subst To (sym is) to_there
  by_run (Err fault) (inl is) = throughout_none (IsOwn name) old mid is (inl none, safe)
  by_run (Err fault) (inr (inl (cut, (n, of), is))) = subst To (sym (is ∙ ap (with_effect old) of)) (to_wrote (take n bytes))
  by_run (Err fault) (inr (inr (inl is))) = subst To (sym is) (to_wrote bytes)
  by_run (Err fault) (inr (inr (inr (inl (cut, of, is))))) = subst To (sym (is ∙ ap (with_effect (wrote bytes)) of)) to_failed
  by_run (Err fault) (inr (inr (inr (inr (inl is))))) = subst To (sym is) to_synced
  by_run (Err fault) (inr (inr (inr (inr (inr (inl (cut, of, is))))))) = subst To (sym (is ∙ ap (with_effect synced) of)) to_there
  by_run (Err fault) (inr (inr (inr (inr (inr (inr is)))))) = subst To (sym is) to_there

  own_all : To mid
  own_all = by_run result (subst (λ (es : List Effect). Runs {A = A} {E = E} es old mid result) (λ i. put_steps true (part_is i) (path_is i) bytes) runs)

  pub own_lasts : Throughout (IsLasting name) old mid
  own_lasts = throughout_map (IsOwn name) (IsLasting name) (lasts_if name) old mid own_all

  -- the part is removed after a failure
  pub own_lasts_gone : {B F : Type 0} (new : Past) (end : Result B F) → Does (Removed part) mid new end → Throughout (IsLasting name) old new
  own_lasts_gone {B} {F} new end removed =
      throughout_map (IsOwn name) (IsLasting name) (lasts_if name) old new
      (throughout_then (IsOwn name) old mid new own_all
      (does_throughout (IsOwn name) {A = B} {E = F} (Removed (part_of name)) mid new end kept (subst (λ (p : List ℕ). Does {A = B} {E = F} (Removed p) mid new end) part_is removed) (throughout_end (IsOwn name) old mid own_all)))
    where
      gone : (p : Past) → IsOwn name p → IsOwn name (with_effect p (Removed (part_of name)))
      gone p own = kept_off name (Removed (part_of name)) (record { names = tt; off = part_off_place name name is_name is_name }) (record { names = tt; off = part_off_swept name name }) p own

      kept : KeptBy (IsOwn name) (Removed (part_of name))
      kept = record { whole = gone; part = λ p cut of own. subst (λ (e : Effect). IsOwn name (with_effect p e)) (sym of) (gone p own) }
