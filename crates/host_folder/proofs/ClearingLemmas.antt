-- What clears the folder of journals: what it leaves, and what it removes.
use Rattle.std.proofs.Common.{append_assoc, ◌≡◌, ◌≢◌, inl, inr, ℕ, Bool, true, false, cond, List, [], ◌∷◌, ◌++◌, Option, Some, None, Result, Ok, Err, OnOk, codes, drop, length, map, nat_eq, nat_lt, not, ◌<◌, arith, append-nil, refl, sym, ◌∙◌, ap, subst}
use Rattle.std.proofs.lemmas.Bool.Decides.{nat_tests}
use Rattle.std.specs.FinMap.{contains_key, get, get-remove, keys, remove}
use Rattle.std.specs.Cmp.{eq_by_cmp_equiv}
use Rattle.std.specs.Ordering.{eq_by_cmp}
use Rattle.std.specs.Str.{IsAscii}
use Rattle.std.proofs.lemmas.Str.{IsAscii-append}
use Rattle.std.proofs.lemmas.Str.Ascii.{IsAscii-cons, IsAscii-nil}
use Rattle.std.specs.List.{AllByRecursion, list_any}
use Rattle.devices.specs.Crash.{folder_has_failed}
use Rattle.devices.specs.Device.{Effect, Files, Past, Does, Wrote, Added, Moved, Removed, SyncedFile, SyncedFolder, FailedFile, FailedFolder, files_after, files_of, names_in_folder, with_effect}
use Rattle.devices.specs.Moments.{Throughout, past_with}
use Rattle.devices.specs.Parts.{LeavesAs}
use Rattle.devices.proofs.MomentLemmas.{throughout_none}
use Rattle.devices.proofs.NameLemmas.{neither}
use Rattle.devices.proofs.PartLemmas.{dropped_leaves, paths_apart}
use Rattle.devices.specs.declared.device.DeviceFault.{DeviceFault}
use Rattle.git_name.specs.Name.{name_cmp}
use Rattle.git_name.proofs.Names.{name_total}
use Rattle.hex.specs.Hex.{encode_lower, lower_digits}
use Rattle.hex.proofs.HexLemmas.{IsAscii-encode_with}
use Rattle.host_folder.specs.Journal.{AllClear, Clears, ClearsBy, IsCleared, IsGone, IsOwn, OnlyClears, journal_called, journal_file, journal_folder, old_journal_file}
use Rattle.host_folder.proofs.OtherLemmas.{among_files, called_slashless, digits_slashless, none_left}
use Rattle.host_folder.proofs.StateLemmas.{tried}

-- ---- what is left
same_called : (a b : List ℕ) → journal_folder ++ a ≡ journal_folder ++ b → a ≡ b
same_called a b is = ap (drop 8) is

module _ (is_there : Bool) (name q : List ℕ) (off : (called : List ℕ) → IsCleared is_there name called → q ≢ journal_folder ++ called) where
  one_cleared : (past : Past) (e : Effect) → Clears is_there name e → Throughout (LeavesAs past q) past (with_effect past e)
  one_cleared past (Wrote path bytes) clears = absurd clears
  one_cleared past (Added path bytes) clears = absurd clears
  one_cleared past (Moved from to) clears = absurd clears
  one_cleared past (Removed path) (called, inside, cleared) =
      dropped_leaves path q past (with_effect past (Removed path)) (paths_apart path q (λ same. off called cleared (sym same ∙ inside))) (inr refl)
  one_cleared past (SyncedFile path) clears = absurd clears
  one_cleared past (SyncedFolder folder) clears = absurd clears
  one_cleared past (FailedFile path) clears = absurd clears
  one_cleared past (FailedFolder folder) clears = absurd clears

  each_cleared : (old : Past) (done : List Effect) → AllClear is_there name done → Throughout (LeavesAs old q) old (past_with old done)
  each_cleared old [] clear = throughout_none (LeavesAs old q) old (past_with old []) refl (λ left may. may)
  each_cleared old (e ∷ done) clear = tried q old (past_with old done) (past_with old (e ∷ done)) (each_cleared old done clear.1) (one_cleared (past_with old done) e clear.0)

  clears_leave : (old new : Past) → ClearsBy is_there name old new → Throughout (LeavesAs old q) old new
  clears_leave old new (done, clear, is) = subst (Throughout (LeavesAs old q) old) (sym is) (each_cleared old done clear)

pub leaves_journal : (name : List ℕ) (old new : Past) → OnlyClears name old new → Throughout (LeavesAs old (journal_file name)) old new
leaves_journal name old new clears =
    clears_leave (contains_key (files_of old) (journal_file name)) name (journal_file name) (λ called cleared is. cleared.other (sym (same_called (journal_called name) called is))) old new clears

pub leaves_old : (name : List ℕ) (old new : Past) → contains_key (files_of old) (journal_file name) ≡ false → OnlyClears name old new → Throughout (LeavesAs old (old_journal_file name)) old new
leaves_old name old new none clears =
    clears_leave (contains_key (files_of old) (journal_file name)) name (old_journal_file name) (λ called cleared is. cleared.old none (sym (same_called (encode_lower name) called is))) old new clears

pub leaves_others : (name path : List ℕ) (old new : Past) → ((called : List ℕ) → path ≢ journal_folder ++ called) → OnlyClears name old new → Throughout (LeavesAs old path) old new
leaves_others name path old new outside clears = clears_leave (contains_key (files_of old) (journal_file name)) name path (λ called cleared. outside called) old new clears

names_same : (is_there : Bool) (name folder : List ℕ) (effects done : List Effect) → AllClear is_there name done → folder_has_failed (done ++ effects) folder ≡ folder_has_failed effects folder
names_same is_there name folder effects [] clear = refl
names_same is_there name folder effects (Wrote path bytes ∷ done) clear = absurd clear.0
names_same is_there name folder effects (Added path bytes ∷ done) clear = absurd clear.0
names_same is_there name folder effects (Moved from to ∷ done) clear = absurd clear.0
names_same is_there name folder effects (Removed path ∷ done) clear = names_same is_there name folder effects done clear.1
names_same is_there name folder effects (SyncedFile path ∷ done) clear = absurd clear.0
names_same is_there name folder effects (SyncedFolder other ∷ done) clear = absurd clear.0
names_same is_there name folder effects (FailedFile path ∷ done) clear = absurd clear.0
names_same is_there name folder effects (FailedFolder other ∷ done) clear = absurd clear.0

pub leaves_names : (name folder : List ℕ) (old new : Past) → OnlyClears name old new → folder_has_failed new.effects folder ≡ folder_has_failed old.effects folder
leaves_names name folder old new (done, clear, is) =
    ap (λ (p : Past). folder_has_failed p.effects folder) is ∙ names_same (contains_key (files_of old) (journal_file name)) name folder old.effects done clear

-- ---- what a host calls its files
own_plain : (called : List ℕ) → IsOwn called → list_any (λ b. nat_eq b 47) called ≡ false
own_plain called (inl is) = ap (λ (xs : List ℕ). list_any (λ b. nat_eq b 47) xs) is
own_plain called (inr (other, other_name, inl is)) = ap (λ (xs : List ℕ). list_any (λ b. nat_eq b 47) xs) is ∙ called_slashless other
own_plain called (inr (other, other_name, inr is)) = ap (λ (xs : List ℕ). list_any (λ b. nat_eq b 47) xs) is ∙ digits_slashless other

ascii_by : (bs : List ℕ) → list_any (λ b. not (nat_lt b 128)) bs ≡ false → IsAscii bs
ascii_by [] none = IsAscii-nil
ascii_by (b ∷ bs) none = IsAscii-cons b bs (small (nat_lt b 128) refl (neither (not (nat_lt b 128)) (list_any (λ b. not (nat_lt b 128)) bs) none).0) (ascii_by bs (neither (not (nat_lt b 128)) (list_any (λ b. not (nat_lt b 128)) bs) none).1)
  where
    small : (t : Bool) → nat_lt b 128 ≡ t → not t ≡ false → b < 128
    small true less never = grind (arith, nat_tests)
    small false more never = absurd (cc)

digits_ascii : (name : List ℕ) → IsAscii (encode_lower name)
digits_ascii name = IsAscii-encode_with lower_digits name (ascii_by lower_digits refl)

pub own_ascii : (called : List ℕ) → IsOwn called → IsAscii called
own_ascii called (inl is) = subst IsAscii (sym is) (ascii_by (codes "part") refl)
own_ascii called (inr (other, other_name, inl is)) = subst IsAscii (sym is) (IsAscii-append (encode_lower other) (codes ".2") (digits_ascii other) (ascii_by (codes ".2") refl))
own_ascii called (inr (other, other_name, inr is)) = subst IsAscii (sym is) (digits_ascii other)

-- ---- what is removed
no_choice : (b : Bool) → cond {A = Option (List ℕ)} b None None ≡ None
no_choice true = refl
no_choice false = refl

removed_path : (files : Files) (path : List ℕ) → get (remove files path) path ≡ None
removed_path files path = get-remove name_total files path path ∙ ap (λ (b : Bool). cond b None (get files path)) ((eq_by_cmp_equiv name_total).refl path)

still_none : (files : Files) (path q : List ℕ) → get files q ≡ None → get (remove files path) q ≡ None
still_none files path q none = get-remove name_total files path q ∙ ap (cond (eq_by_cmp name_cmp q path) None) none ∙ no_choice (eq_by_cmp name_cmp q path)

pub none_called : {A : Type 0} (called : A → List ℕ) (left : List A) → length left ≡ 0 → map called left ≡ []
none_called called left none = ap (map called) (none_left left none)

module _ (is_there : Bool) (name : List ℕ) where
  keeps_none : (base : Files) (effects done : List Effect) (q : List ℕ) → AllClear is_there name done → get (files_after base effects) q ≡ None → get (files_after base (done ++ effects)) q ≡ None
  keeps_none base effects [] q clear none = none
  keeps_none base effects (Wrote path bytes ∷ done) q clear none = absurd clear.0
  keeps_none base effects (Added path bytes ∷ done) q clear none = absurd clear.0
  keeps_none base effects (Moved from to ∷ done) q clear none = absurd clear.0
  keeps_none base effects (Removed path ∷ done) q clear none = still_none (files_after base (done ++ effects)) path q (keeps_none base effects done q clear.1 none)
  keeps_none base effects (SyncedFile path ∷ done) q clear none = absurd clear.0
  keeps_none base effects (SyncedFolder folder ∷ done) q clear none = absurd clear.0
  keeps_none base effects (FailedFile path ∷ done) q clear none = absurd clear.0
  keeps_none base effects (FailedFolder folder ∷ done) q clear none = absurd clear.0

  none_still : (old new : Past) (q : List ℕ) → ClearsBy is_there name old new → get (files_of old) q ≡ None → get (files_of new) q ≡ None
  none_still old new q (done, clear, is) none = ap (λ (p : Past). get (files_of p) q) is ∙ keeps_none old.base old.effects done q clear none

  -- a file that was removed is gone
  pub gone_there : (called path : List ℕ) (old new : Past) (result : Result (Unit {0}) DeviceFault) → path ≡ journal_folder ++ called → Does (Removed path) old new result → OnOk result (IsGone (files_of new) is_there name called)
  gone_there called path old new (Ok answer) same is = λ own cleared.
      ap (λ (p : Past). get (files_of p) (journal_folder ++ called)) is ∙ ap (λ (p : List ℕ). get (remove (files_of old) p) (journal_folder ++ called)) same ∙ removed_path (files_of old) (journal_folder ++ called)
  gone_there called path old new (Err fault) same is = tt

  -- files that a host wrote are gone, but for those that are left in the listing
  abbrev pub IsClearBut : Files → Files → List (List ℕ) → Type 0
  IsClearBut first now rest = (done : List (List ℕ)) × (names_in_folder journal_folder (keys first) ≡ done ++ rest) × AllByRecursion (IsGone now is_there name) done

  all_still : (old new : Past) → ClearsBy is_there name old new → (done : List (List ℕ)) → AllByRecursion (IsGone (files_of old) is_there name) done → AllByRecursion (IsGone (files_of new) is_there name) done
  all_still old new clears [] all = tt
  all_still old new clears (n ∷ done) all = (λ own cleared. none_still old new (journal_folder ++ n) clears (all.0 own cleared), all_still old new clears done all.1)

  all_more : (now : Files) (called : List ℕ) (done : List (List ℕ)) → AllByRecursion (IsGone now is_there name) done → IsGone now is_there name called → AllByRecursion (IsGone now is_there name) (done ++ called ∷ [])
  all_more now called [] all gone = (gone, tt)
  all_more now called (n ∷ done) all gone = (all.0, all_more now called done all.1 gone)

  pub clear_more : (first : Files) (old new : Past) (called : List ℕ) (now rest : List (List ℕ)) → now ≡ called ∷ rest → ClearsBy is_there name old new → IsGone (files_of new) is_there name called → IsClearBut first (files_of old) now → IsClearBut first (files_of new) rest
  clear_more first old new called now rest is clears gone (done, listed, all) = (
    done ++ called ∷ [],
    listed ∙ ap (λ (ns : List (List ℕ)). done ++ ns) is ∙ sym (append_assoc done (called ∷ []) rest),
    all_more (files_of new) called done (all_still old new clears done all) gone,
  )

  pub clear_end : (old new : Past) (rest : List (List ℕ)) → rest ≡ [] → ClearsBy is_there name old new → IsClearBut (files_of old) (files_of new) rest → (called : List ℕ) → IsGone (files_of new) is_there name called
  clear_end old new rest none clears (done, listed, all) called own cleared = by (get (files_of old) (journal_folder ++ called)) refl
    where
      whole : AllByRecursion (IsGone (files_of new) is_there name) (names_in_folder journal_folder (keys (files_of old)))
      whole = subst (AllByRecursion (IsGone (files_of new) is_there name)) (sym (listed ∙ ap (λ (ns : List (List ℕ)). done ++ ns) none ∙ append-nil done)) all

      by : (o : Option (List ℕ)) → get (files_of old) (journal_folder ++ called) ≡ o → get (files_of new) (journal_folder ++ called) ≡ None
      by None is = none_still old new (journal_folder ++ called) clears is
      by (Some text) is = among_files (IsGone (files_of new) is_there name) (files_of old) called text (own_plain called own) whole is own cleared
