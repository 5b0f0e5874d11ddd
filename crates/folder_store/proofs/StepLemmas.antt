-- What lasts, after the calls of a folder.
use Rattle.std.proofs.Common.{◌≡◌, ◌≢◌, inl, inr, ℕ, ◌||◌, Bool, true, false, List, [], ◌∷◌, Option, Some, None, option_map, refl, sym, ◌∙◌, ap, subst}
use Rattle.std.specs.FinMap.{get}
use Rattle.devices.specs.Crash.{File, Names, MayNames, MayBytes, Stands, set, moved, removed, names_after, bytes_after}
use Rattle.devices.specs.Device.{Effect, Past, Wrote, Moved, Removed, SyncedFile, SyncedFolder, files_of, with_effect}
use Rattle.git_name.specs.Name.{IsName}
use Rattle.folder_store.specs.Place.{part_of, place_of, swept_of}
use Rattle.folder_store.specs.Swept.{is_whole, put_back}
use Rattle.folder_store.proofs.PlaceLemmas.{same_text}
use Rattle.folder_store.specs.Lasting.{as_read, HasSureBytes, IsLasting, IsPlaceSafe, IsSafe, IsSafeAt, Lasts}
use Rattle.devices.proofs.BeforeLemmas.{IsOfNames, seen_may, older, stood_at}
use Rattle.devices.proofs.MomentLemmas.{KeptBy, KeptByAll}
use Rattle.devices.proofs.SeenLemmas.{set_here, set_other, seen_bytes}
use Rattle.folder_store.proofs.LastingLemmas.{IsOff, part_off, lasts_off, lasts_unplaced, by_swept, safe_at_off, places_apart, part_off_place, part_off_swept, place_off_swept, swept_off_place, removed_here, put_off}

-- ---- effects at other paths
abbrev pub IsSweptSafe : List ℕ → Past → Type 0
IsSweptSafe name past = IsSafeAt (swept_of name) past name

pub off_keeps : (name : List ℕ) (e : Effect) → IsOff e (swept_of name) → IsOff e (place_of name) → KeptBy (IsLasting name) e
off_keeps name e swept there = record {
  whole = λ p lasts. lasts_off p e name swept there lasts;
  part = λ p part is lasts. lasts_off p part name (part_off e part (swept_of name) is swept) (part_off e part (place_of name) is there) lasts;
}

pub swept_keeps : (name : List ℕ) (e : Effect) → IsOff e (swept_of name) → KeptBy (IsSweptSafe name) e
swept_keeps name e swept = record {
  whole = λ p safe. safe_at_off p e (swept_of name) name swept safe;
  part = λ p part is safe. safe_at_off p part (swept_of name) name (part_off e part (swept_of name) is swept) safe;
}

pub place_keeps : (name : List ℕ) (e : Effect) → IsOff e (place_of name) → KeptBy (IsPlaceSafe name) e
place_keeps name e there = record {
  whole = λ p safe. safe_at_off p e (place_of name) name there safe;
  part = λ p part is safe. safe_at_off p part (place_of name) name (part_off e part (place_of name) is there) safe;
}

pub both_off : (a b : Bool) → a ≡ false → b ≡ false → (a || b) ≡ false
both_off false false a b = refl
both_off true c a b = absurd (cc)
both_off false true a b = absurd (cc)

-- writing the file of another name
module _ (n name bytes : List ℕ) (n_name : IsName n) (is_name : IsName name) where
  wrote_off_swept : IsOff (Wrote (part_of n) bytes) (swept_of name)
  wrote_off_swept = record { names = tt; off = part_off_swept n name }

  moved_off_swept : IsOff (Moved (part_of n) (place_of n)) (swept_of name)
  moved_off_swept = record { names = tt; off = both_off _ _ (part_off_swept n name) (place_off_swept n name) }

  wrote_off_place : IsOff (Wrote (part_of n) bytes) (place_of name)
  wrote_off_place = record { names = tt; off = part_off_place n name n_name is_name }

  pub put_other : n ≢ name → KeptByAll (IsLasting name) (Wrote (part_of n) bytes ∷ Moved (part_of n) (place_of n) ∷ [])
  put_other differ = (
    off_keeps name (Wrote (part_of n) bytes) wrote_off_swept wrote_off_place,
    (off_keeps name (Moved (part_of n) (place_of n)) moved_off_swept (record { names = tt; off = both_off _ _ (part_off_place n name n_name is_name) (places_apart n name n_name is_name differ) }), tt),
  )

  pub put_place : n ≢ name → KeptByAll (IsPlaceSafe name) (Wrote (part_of n) bytes ∷ Moved (part_of n) (place_of n) ∷ [])
  put_place differ = (
    place_keeps name (Wrote (part_of n) bytes) wrote_off_place,
    (place_keeps name (Moved (part_of n) (place_of n)) (record { names = tt; off = both_off _ _ (part_off_place n name n_name is_name) (places_apart n name n_name is_name differ) }), tt),
  )

  pub place_part_removed : KeptBy (IsPlaceSafe name) (Removed (part_of n))
  place_part_removed = place_keeps name (Removed (part_of n)) (record { names = tt; off = part_off_place n name n_name is_name })

  pub put_swept : KeptByAll (IsSweptSafe name) (Wrote (part_of n) bytes ∷ Moved (part_of n) (place_of n) ∷ [])
  put_swept = (swept_keeps name (Wrote (part_of n) bytes) wrote_off_swept, (swept_keeps name (Moved (part_of n) (place_of n)) moved_off_swept, tt))

  pub part_removed : KeptBy (IsLasting name) (Removed (part_of n))
  part_removed = off_keeps name (Removed (part_of n)) (record { names = tt; off = part_off_swept n name }) (record { names = tt; off = part_off_place n name n_name is_name })

  pub swept_part_removed : KeptBy (IsSweptSafe name) (Removed (part_of n))
  swept_part_removed = swept_keeps name (Removed (part_of n)) (record { names = tt; off = part_off_swept n name })

-- syncs
pub synced_file : (name path : List ℕ) → KeptBy (IsLasting name) (SyncedFile path)
synced_file name path = off_keeps name (SyncedFile path) (record { names = tt; off = refl }) (record { names = tt; off = refl })

pub synced_folder : (name folder : List ℕ) → KeptBy (IsLasting name) (SyncedFolder folder)
synced_folder name folder = off_keeps name (SyncedFolder folder) (record { names = tt; off = refl }) (record { names = tt; off = refl })

-- ---- a sweep
as_none : (o : Option (List ℕ)) (n : Option File) (g : File → List ℕ) → option_map g n ≡ o → o ≡ None → n ≡ None
as_none o None g is none = refl
as_none o (Some f) g is none = absurd (cc)

-- no file is seen where a read shows none
pub unseen : (past : Past) (q : List ℕ) → get (files_of past) q ≡ None → names_after past.base past.effects q ≡ None
unseen past q none = as_none _ (names_after past.base past.effects q) (bytes_after past.base past.effects) (seen_bytes past.base past.effects q) none

-- the same two stand for the same two
pub two_whole : (name : List ℕ) (swept there a b : Option (List ℕ)) → swept ≡ a → there ≡ b → is_whole name (put_back name (as_read a) (as_read b)) ≡ true → is_whole name (put_back name (as_read swept) (as_read there)) ≡ true
two_whole name swept there a b is_swept is_there whole =
    ap (λ (o : Option (List ℕ)). is_whole name (put_back name (as_read o) (as_read there))) is_swept ∙ ap (λ (o : Option (List ℕ)). is_whole name (put_back name (as_read a) (as_read o))) is_there ∙ whole

module _ (old : Past) (name : List ℕ) (safe : IsSafe old name) where
  -- what the names of `d` show
  pub same_safe : (e : Effect) (m d : Names) → IsOfNames e → MayNames old.base old.effects d → ((q : List ℕ) → m q ≡ d q) → (swept there : Option (List ℕ))
      → Stands old.base (e ∷ old.effects) (m (swept_of name)) swept → Stands old.base (e ∷ old.effects) (m (place_of name)) there → is_whole name (put_back name (as_read swept) (as_read there)) ≡ true
  same_safe e m d of was same swept there s t =
      safe d was swept there (stood_at old.base old.effects e m d (swept_of name) swept of was (same (swept_of name)) s) (stood_at old.base old.effects e m d (place_of name) there of was (same (place_of name)) t)

  -- the moved file is whole
  moved_whole : names_after old.base old.effects (swept_of name) ≡ None → (f : File) → names_after old.base old.effects (place_of name) ≡ Some f → (x : List ℕ) → MayBytes old.base old.effects f x → is_whole name (put_back name (as_read (Some x)) (as_read None)) ≡ true
  moved_whole none f at_place x may =
      safe (names_after old.base old.effects) (seen_may old.base old.effects) None (Some x) (subst (λ (o : Option File). Stands old.base old.effects o None) (sym none) refl)
      (subst (λ (o : Option File). Stands old.base old.effects o (Some x)) (sym at_place) (x, refl, may))

  -- what a sweep makes of the file at the place is whole
  abbrev IsMovedWhole : Type 0
  IsMovedWhole = (f : File) → names_after old.base old.effects (place_of name) ≡ Some f → (x : List ℕ) → MayBytes old.base old.effects f x → is_whole name (put_back name (as_read (Some x)) (as_read None)) ≡ true

  move_safe : IsMovedWhole → IsSafe (with_effect old (Moved (place_of name) (swept_of name))) name
  move_safe whole m (d, was, inl same) swept there s t = same_safe (Moved (place_of name) (swept_of name)) m d tt was same swept there s t
  move_safe whole m (d, was, inr new) swept there s t = by (names_after old.base old.effects (place_of name)) refl new
    where
      at_swept : (f : File) → ((q : List ℕ) → m q ≡ moved d (place_of name) (swept_of name) (Some f) q) → m (swept_of name) ≡ Some f
      at_swept f is = is (swept_of name) ∙ set_here (set d (place_of name) None) (swept_of name) (swept_of name) (Some f) (same_text (swept_of name))

      at_place : (f : File) → ((q : List ℕ) → m q ≡ moved d (place_of name) (swept_of name) (Some f) q) → m (place_of name) ≡ None
      at_place f is = is (place_of name) ∙ set_other (set d (place_of name) None) (swept_of name) (place_of name) (Some f) (swept_off_place name name) ∙ set_here d (place_of name) (place_of name) None (same_text (place_of name))

      swept_alone : (f : File) → names_after old.base old.effects (place_of name) ≡ Some f → Stands old.base (Moved (place_of name) (swept_of name) ∷ old.effects) (Some f) swept → Stands old.base (Moved (place_of name) (swept_of name) ∷ old.effects) None there
          → is_whole name (put_back name (as_read swept) (as_read there)) ≡ true
      swept_alone f has (x, is, may) gone = two_whole name swept there (Some x) None is gone (whole f has x may)

      by : (o : Option File) → names_after old.base old.effects (place_of name) ≡ o → ((q : List ℕ) → m q ≡ moved d (place_of name) (swept_of name) o q) → is_whole name (put_back name (as_read swept) (as_read there)) ≡ true
      by None has is = same_safe (Moved (place_of name) (swept_of name)) m d tt was is swept there s t
      by (Some f) has is =
          swept_alone f has (subst (λ (o : Option File). Stands old.base (Moved (place_of name) (swept_of name) ∷ old.effects) o swept) (at_swept f is) s)
          (subst (λ (o : Option File). Stands old.base (Moved (place_of name) (swept_of name) ∷ old.effects) o there) (at_place f is) t)

  moved_none : get (files_of (with_effect old (Moved (place_of name) (swept_of name)))) (place_of name) ≡ None
  moved_none = put_off _ (swept_of name) (place_of name) (get (files_of old) (place_of name)) (swept_off_place name name) ∙ removed_here (files_of old) (place_of name)

  -- a file that is swept
  pub moved_lasts : IsMovedWhole → Lasts (with_effect old (Moved (place_of name) (swept_of name))) name
  moved_lasts whole = lasts_unplaced (with_effect old (Moved (place_of name) (swept_of name))) name moved_none (move_safe whole)

  pub whole_alone : get (files_of old) (swept_of name) ≡ None → IsMovedWhole
  whole_alone none = moved_whole (unseen old (swept_of name) none)

  pub whole_sure : HasSureBytes (place_of name) old name → IsMovedWhole
  whole_sure sure f at_place x may = by_swept name (as_read (Some x)) (as_read None) (sure f at_place x may)

  pub whole_none : get (files_of old) (place_of name) ≡ None → IsMovedWhole
  whole_none none f at_place x may = absurd (let bad : None ≡ Some f = sym (unseen old (place_of name) none) ∙ at_place in cc)

  -- a removal at a path where no file is seen
  pub removed_unseen : (path : List ℕ) → get (files_of old) path ≡ None → IsSafe (with_effect old (Removed path)) name
  removed_unseen path none m (d, was, inl same) swept there s t = same_safe (Removed path) m d tt was same swept there s t
  removed_unseen path none m (d, was, inr new) swept there s t =
      same_safe (Removed path) m d tt was (λ q. new q ∙ ap (λ (o : Option File). removed d path o q) (unseen old path none)) swept there s t

-- the sweep of a name
pub own_swept : (old : Past) (name : List ℕ) → Lasts old name → Lasts (with_effect old (Moved (place_of name) (swept_of name))) name
own_swept old name lasts = by (get (files_of old) (swept_of name)) (get (files_of old) (place_of name)) refl refl
  where
    by : (o p : Option (List ℕ)) → get (files_of old) (swept_of name) ≡ o → get (files_of old) (place_of name) ≡ p → Lasts (with_effect old (Moved (place_of name) (swept_of name))) name
    by None p swept there = moved_lasts old name lasts.safe (whole_alone old name lasts.safe swept)
    by (Some older) (Some newer) swept there = moved_lasts old name lasts.safe (whole_sure old name lasts.safe (lasts.both older newer swept there))
    by (Some older) None swept there = moved_lasts old name lasts.safe (whole_none old name lasts.safe there)
