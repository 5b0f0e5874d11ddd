-- A part that takes its place, and is then appended to.
use Rattle.std.proofs.Common.{◌≡◌, ℕ, false, List, [], ◌∷◌, Option, Some, None, Ok, option_map, refl, sym, ◌∙◌, ap, subst}
use Rattle.std.specs.FinMap.{get}
use Rattle.host_folder.specs.Appending.{IsAppendedTo, IsUnfailed}
use Rattle.devices.specs.Crash.{File, IsIn, bytes_after, folder_has_failed, has_failed, moved, names_after, set}
use Rattle.devices.specs.Device.{Past, Wrote, Moved, SyncedFile, SyncedFolder, files_of, with_effect}
use Rattle.devices.specs.Moments.{past_with}
use Rattle.devices.specs.Parts.{IsWritten, placing}
use Rattle.devices.specs.Runs.{Runs}
use Rattle.devices.proofs.NameLemmas.{same_text}
use Rattle.devices.proofs.PartLemmas.{part_names, part_written}
use Rattle.devices.proofs.SeenLemmas.{seen_bytes, set_here}
use Rattle.host_folder.proofs.AppendLemmas.{Fronts, fronts_synced}
use Rattle.host_folder.proofs.UnfailedLemmas.{first_unfailed, one_file, pieces_unfailed}

-- a file is seen at this path. A loss of power leaves a front of its bytes, under whatever name, and no sync of it has failed
record HasFront (path least : List ℕ) (past : Past) : Type 0 where
  file : File
  seen : names_after past.base past.effects path ≡ Some file
  fronts : Fronts past.base past.effects file least
  unfailed : has_failed past.base past.effects file ≡ false

some_text : (a b : List ℕ) → Some a ≡ Some b → a ≡ b
some_text a b is = cc

front_synced : (path text : List ℕ) (past : Past) → IsUnfailed path past → get (files_of past) path ≡ Some text → HasFront path text (with_effect past (SyncedFile path))
front_synced path text past unfailed shown = by (names_after past.base past.effects path) refl (seen_bytes past.base past.effects path ∙ shown)
  where
    by : (o : Option File) → names_after past.base past.effects path ≡ o → option_map (bytes_after past.base past.effects) o ≡ Some text → HasFront path text (with_effect past (SyncedFile path))
    by None at bytes = absurd (cc)
    by (Some f) at bytes = record {
      file = f;
      seen = at;
      fronts = subst (λ (low : List ℕ). Fronts past.base (SyncedFile path ∷ past.effects) f low) (some_text (bytes_after past.base past.effects f) text bytes) (fronts_synced past.base past.effects path f at (unfailed f at));
      unfailed = unfailed f at;
    }

front_moved : (part path least : List ℕ) (past : Past) → HasFront part least past → HasFront path least (with_effect past (Moved part path))
front_moved part path least past has = record {
  file = has.file;
  seen = ap (λ (o : Option File). moved (names_after past.base past.effects) part path o path) has.seen ∙ set_here (set (names_after past.base past.effects) part None) path path (Some has.file) (same_text path);
  fronts = has.fronts;
  unfailed = has.unfailed;
}

named_synced : (path folder least : List ℕ) (past : Past) → HasFront path least past → IsIn folder path → folder_has_failed past.effects folder ≡ false → IsAppendedTo path least (with_effect past (SyncedFolder folder))
named_synced path folder least past has is_in unfailed = record {
  file = has.file;
  named = λ m may. may.1 unfailed path is_in ∙ has.seen;
  fronts = has.fronts;
}

front_unfailed : (path least : List ℕ) (past : Past) → HasFront path least past → IsUnfailed path past
front_unfailed path least past has f at = subst (λ (g : File). has_failed past.base past.effects g ≡ false) (one_file has.file f (sym has.seen ∙ at)) has.unfailed

-- once it is moved and the names in its folder are synced
module _ (part path folder text : List ℕ) (mid : Past) (front : HasFront part text mid) where
  abbrev there : Past
  there = with_effect mid (Moved part path)

  abbrev sure : Past
  sure = with_effect there (SyncedFolder folder)

  sure_appended : IsIn folder path → folder_has_failed mid.effects folder ≡ false → IsAppendedTo path text sure
  sure_appended is_in unfailed = named_synced path folder text there (front_moved part path text mid front) is_in unfailed

  sure_unfailed : IsUnfailed path sure
  sure_unfailed = front_unfailed path text there (front_moved part path text mid front)

-- ---- a part that was written and synced
module _ (part path folder text : List ℕ) (old mid new : Past) (written : IsWritten part text old mid) where
  abbrev whole : Past
  whole = past_with (with_effect old (Wrote part [])) written.pieces

  part_front : HasFront part text mid
  part_front =
      subst (HasFront part text) (sym written.all)
      (front_synced part text whole (pieces_unfailed part (with_effect old (Wrote part [])) written.pieces written.each (first_unfailed part [] old))
      (subst (λ (p : Past). get (files_of p) part ≡ Some text) written.all written.bytes))

  folder_unfailed : folder_has_failed old.effects folder ≡ false → folder_has_failed mid.effects folder ≡ false
  folder_unfailed unfailed = part_names part folder old mid (part_written part text old mid written) ∙ unfailed

  pub begun_appended : {A : Type 0} (E : Type 0) (answer : A) → Runs {A = A} {E = E} (placing part path folder) mid new (Ok answer) → IsIn folder path → folder_has_failed old.effects folder ≡ false → IsAppendedTo path text new
  begun_appended {A} E answer runs is_in unfailed = subst (IsAppendedTo path text) (sym runs) (sure_appended part path folder text mid part_front is_in (folder_unfailed unfailed))

  pub begun_unfailed : {A : Type 0} (E : Type 0) (answer : A) → Runs {A = A} {E = E} (placing part path folder) mid new (Ok answer) → IsUnfailed path new
  begun_unfailed {A} E answer runs = subst (IsUnfailed path) (sym runs) (sure_unfailed part path folder text mid part_front)

-- ---- a part that a read shows, and that is synced now
module _ (part path folder text : List ℕ) (old new : Past) (unfailed : IsUnfailed part old) (shown : get (files_of old) part ≡ Some text) where
  synced_front : HasFront part text (with_effect old (SyncedFile part))
  synced_front = front_synced part text old unfailed shown

  pub placed_appended : {A : Type 0} (E : Type 0) (answer : A) → Runs {A = A} {E = E} (SyncedFile part ∷ placing part path folder) old new (Ok answer) → IsIn folder path → folder_has_failed old.effects folder ≡ false → IsAppendedTo path text new
  placed_appended {A} E answer runs is_in none = subst (IsAppendedTo path text) (sym runs) (sure_appended part path folder text (with_effect old (SyncedFile part)) synced_front is_in none)

  pub placed_unfailed : {A : Type 0} (E : Type 0) (answer : A) → Runs {A = A} {E = E} (SyncedFile part ∷ placing part path folder) old new (Ok answer) → IsUnfailed path new
  placed_unfailed {A} E answer runs = subst (IsUnfailed path) (sym runs) (sure_unfailed part path folder text (with_effect old (SyncedFile part)) synced_front)
