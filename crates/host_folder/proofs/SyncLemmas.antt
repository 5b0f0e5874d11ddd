-- What syncs leave of a file, whether they fail or not, and what they make sure.
use Rattle.std.proofs.Common.{◌≡◌, ℕ, Bool, true, false, cond, List, [], ◌∷◌, Option, Some, None, Result, option_map, nat_eq, refl, sym, ◌∙◌, ap, subst}
use Rattle.std.specs.Cmp.Lexicographic.{pointwise}
use Rattle.devices.specs.Crash.{File, Stands, bytes_after, folder_has_failed, names_after}
use Rattle.devices.specs.Device.{Files, Effect, Past, Moved, SyncedFile, SyncedFolder, FailedFile, FailedFolder, with_effect}
use Rattle.devices.specs.Moments.{Throughout}
use Rattle.devices.specs.Parts.{IsSure, LeavesAs, placing}
use Rattle.devices.specs.Runs.{Runs}
use Rattle.devices.proofs.MomentLemmas.{KeptBy, run_keeps, run_throughout}
use Rattle.devices.proofs.SeenLemmas.{seen_bytes}
use Rattle.host_folder.specs.State.{IsShown, state_file, syncing}
use Rattle.host_folder.proofs.StateLemmas.{state_is_in}

-- ---- what is left
-- what is at a path after a sync was there before
after_file : (base : Files) (past : List Effect) (path : List ℕ) (o : Option File) (found : Option (List ℕ)) → Stands base (SyncedFile path ∷ past) o found → Stands base past o found
after_file base past path None found stands = stands
after_file base past path (Some f) found (x, is, may) = (x, is, may.0)

after_failed_file : (base : Files) (past : List Effect) (path : List ℕ) (o : Option File) (found : Option (List ℕ)) → Stands base (FailedFile path ∷ past) o found → Stands base past o found
after_failed_file base past path None found stands = stands
after_failed_file base past path (Some f) found stands = stands

after_folder : (base : Files) (past : List Effect) (folder : List ℕ) (o : Option File) (found : Option (List ℕ)) → Stands base (SyncedFolder folder ∷ past) o found → Stands base past o found
after_folder base past folder None found stands = stands
after_folder base past folder (Some f) found stands = stands

after_failed_folder : (base : Files) (past : List Effect) (folder : List ℕ) (o : Option File) (found : Option (List ℕ)) → Stands base (FailedFolder folder ∷ past) o found → Stands base past o found
after_failed_folder base past folder None found stands = stands
after_failed_folder base past folder (Some f) found stands = stands

module _ (old : Past) (q : List ℕ) where
  file_leaves : (path : List ℕ) → KeptBy (LeavesAs old q) (SyncedFile path)
  file_leaves path = record {
    whole = λ p was found (m, may, stands). was found (m, may, after_file p.base p.effects path (m q) found stands);
    part = λ p part is was. subst (λ (e : Effect). LeavesAs old q (with_effect p e)) (sym is) (λ found (m, may, stands). was found (m, may, after_failed_file p.base p.effects path (m q) found stands));
  }

  folder_leaves : (folder : List ℕ) → KeptBy (LeavesAs old q) (SyncedFolder folder)
  folder_leaves folder = record {
    whole = λ p was found (m, may, stands). was found (m, may.0, after_folder p.base p.effects folder (m q) found stands);
    part = λ p part is was. subst (λ (e : Effect). LeavesAs old q (with_effect p e)) (sym is) (λ found (m, may, stands). was found (m, may, after_failed_folder p.base p.effects folder (m q) found stands));
  }

  pub syncs_leave : {A E : Type 0} (new : Past) (result : Result A E) → Runs {A = A} {E = E} syncing old new result → Throughout (LeavesAs old q) old new
  syncs_leave {A} {E} new result runs =
      run_throughout (LeavesAs old q) {A = A} {E = E} syncing old new result (file_leaves state_file, (folder_leaves [], tt)) runs (λ left may. may)

-- ---- syncs of a folder that failed
-- if none has failed in this past, none had in the older one
abbrev pub UnfailedAs : List ℕ → Past → Past → Type 0
UnfailedAs folder old past = folder_has_failed past.effects folder ≡ false → folder_has_failed old.effects folder ≡ false

other_false : (b c : Bool) → cond b true c ≡ false → c ≡ false
other_false true c is = absurd (cc)
other_false false c is = is

module _ (folder : List ℕ) (old : Past) where
  moved_names : (from to : List ℕ) → KeptBy (UnfailedAs folder old) (Moved from to)
  moved_names from to = record {
    whole = λ p was. was;
    part = λ p part is was. subst (λ (e : Effect). UnfailedAs folder old (with_effect p e)) (sym is) was;
  }

  file_names : (path : List ℕ) → KeptBy (UnfailedAs folder old) (SyncedFile path)
  file_names path = record {
    whole = λ p was. was;
    part = λ p part is was. subst (λ (e : Effect). UnfailedAs folder old (with_effect p e)) (sym is) was;
  }

  folder_names : (other : List ℕ) → KeptBy (UnfailedAs folder old) (SyncedFolder other)
  folder_names other = record {
    whole = λ p was. was;
    part = λ p part is was. subst (λ (e : Effect). UnfailedAs folder old (with_effect p e)) (sym is) (λ none. was (other_false (pointwise nat_eq other folder) (folder_has_failed p.effects folder) none));
  }

  pub syncs_names : {A E : Type 0} (new : Past) (result : Result A E) → Runs {A = A} {E = E} syncing old new result → UnfailedAs folder old new
  syncs_names {A} {E} new result runs =
      run_keeps {A = A} {E = E} (UnfailedAs folder old) syncing old new result (file_names state_file, (folder_names [], tt)) runs (λ none. none)

  pub placing_names : {A E : Type 0} (part path other : List ℕ) (new : Past) (result : Result A E) → Runs {A = A} {E = E} (placing part path other) old new result → UnfailedAs folder old new
  placing_names {A} {E} part path other new result runs =
      run_keeps {A = A} {E = E} (UnfailedAs folder old) (placing part path other) old new result (moved_names part path, (folder_names other, tt)) runs (λ none. none)

-- ---- a state that is shown
some_text : (a b : List ℕ) → Some a ≡ Some b → a ≡ b
some_text a b is = cc

pub shown_sure : (text : List ℕ) (old : Past) → IsShown text old → IsSure (with_effect (with_effect old (SyncedFile state_file)) (SyncedFolder [])) state_file (Some text)
shown_sure text old shown found (m, may, stands) =
    by (names_after old.base old.effects state_file) refl (subst (λ (o : Option File). Stands old.base (SyncedFolder [] ∷ SyncedFile state_file ∷ old.effects) o found) (may.1 shown.folder state_file state_is_in) stands)
    (seen_bytes old.base old.effects state_file ∙ shown.shown)
  where
    by : (o : Option File) → names_after old.base old.effects state_file ≡ o → Stands old.base (SyncedFolder [] ∷ SyncedFile state_file ∷ old.effects) o found → option_map (bytes_after old.base old.effects) o ≡ Some text → found ≡ Some text
    by None at_path left seen = absurd (cc)
    by (Some f) at_path (x, is, left) seen = is ∙ ap Some (left.1 at_path (shown.file f at_path) ∙ some_text (bytes_after old.base old.effects f) text seen)
