-- What syncs make sure, and what stays so.
use Rattle.std.proofs.Common.{◌≡◌, ◌⊎◌, inl, inr, ℕ, suc, Bool, true, false, cond, List, [], ◌∷◌, ◌++◌, Option, Some, None, Result, Ok, Err, OnOk, length, nat_eq, refl, sym, ◌∙◌, ap, subst, take, arith}
use Rattle.std.specs.Cmp.Lexicographic.{pointwise}
use Rattle.devices.specs.Crash.{File, Names, MayBytes, added_to, bytes_after, folder_has_failed, has_failed, is_file, names_after, removed}
use Rattle.devices.specs.Device.{Files, Effect, Past, Does, Wrote, Added, Moved, Removed, SyncedFile, SyncedFolder, FailedFile, FailedFolder, with_effect}
use Rattle.std.proofs.lemmas.Bool.Decides.{Decides-eqb}
use Rattle.devices.proofs.ByteLemmas.{the_file}
use Rattle.devices.proofs.NameLemmas.{same_text}
use Rattle.packed_store.specs.Lasting.{AreSure, HasSureBytes, HaveNoFailure, IsUnfailed, Narrows}
use Rattle.packed_store.specs.Place.{segment_path}
use Rattle.devices.proofs.SeenLemmas.{clash, either_of, not_true, one_path, seen_aged, set_other}

-- ---- syncs that failed
pub file_unfailed : (base : Files) (past : List Effect) (f : File) → HaveNoFailure past → has_failed base past f ≡ false
file_unfailed base [] f none = refl
file_unfailed base (Wrote path bytes ∷ past) f none = file_unfailed base past f none
file_unfailed base (Added path bytes ∷ past) f none = file_unfailed base past f none
file_unfailed base (Moved from to ∷ past) f none = file_unfailed base past f none
file_unfailed base (Removed path ∷ past) f none = file_unfailed base past f none
file_unfailed base (SyncedFile path ∷ past) f none = file_unfailed base past f none
file_unfailed base (SyncedFolder folder ∷ past) f none = file_unfailed base past f none
file_unfailed base (FailedFile path ∷ past) f none = absurd none
file_unfailed base (FailedFolder folder ∷ past) f none = absurd none

pub folder_unfailed : (past : List Effect) (folder : List ℕ) → HaveNoFailure past → folder_has_failed past folder ≡ false
folder_unfailed [] folder none = refl
folder_unfailed (Wrote path bytes ∷ past) folder none = folder_unfailed past folder none
folder_unfailed (Added path bytes ∷ past) folder none = folder_unfailed past folder none
folder_unfailed (Moved from to ∷ past) folder none = folder_unfailed past folder none
folder_unfailed (Removed path ∷ past) folder none = folder_unfailed past folder none
folder_unfailed (SyncedFile path ∷ past) folder none = folder_unfailed past folder none
folder_unfailed (SyncedFolder other ∷ past) folder none = folder_unfailed past folder none
folder_unfailed (FailedFile path ∷ past) folder none = absurd none
folder_unfailed (FailedFolder other ∷ past) folder none = absurd none

-- ---- pasts of which less may be left
pub narrows_not : (old new : Past) → new ≡ old → Narrows old new
narrows_not old new is = subst (λ (p : Past). Narrows old p) (sym is) (record { names = refl; bytes = refl; may_names = λ m may. may; may_bytes = λ f x may. may; unfailed = λ none. none })

pub narrows_on : (a b c : Past) → Narrows a b → Narrows b c → Narrows a c
narrows_on a b c one two = record {
  names = two.names ∙ one.names;
  bytes = two.bytes ∙ one.bytes;
  may_names = λ m may. one.may_names m (two.may_names m may);
  may_bytes = λ f x may. one.may_bytes f x (two.may_bytes f x may);
  unfailed = λ none. one.unfailed (two.unfailed none);
}

narrows_file : (old new : Past) (path : List ℕ) → new ≡ with_effect old (SyncedFile path) → Narrows old new
narrows_file old new path is = subst (λ (p : Past). Narrows old p) (sym is) (record { names = refl; bytes = refl; may_names = λ m may. may; may_bytes = λ f x may. may.0; unfailed = λ none. none })

narrows_folder : (old new : Past) (folder : List ℕ) → new ≡ with_effect old (SyncedFolder folder) → Narrows old new
narrows_folder old new folder is = subst (λ (p : Past). Narrows old p) (sym is) (record { names = refl; bytes = refl; may_names = λ m may. may.0; may_bytes = λ f x may. may; unfailed = λ none. none })

narrows_failed_file : (old new : Past) (path : List ℕ) → new ≡ with_effect old (FailedFile path) → Narrows old new
narrows_failed_file old new path is = subst (λ (p : Past). Narrows old p) (sym is) (record { names = refl; bytes = refl; may_names = λ m may. may; may_bytes = λ f x may. may; unfailed = λ none. absurd none })

narrows_failed_folder : (old new : Past) (folder : List ℕ) → new ≡ with_effect old (FailedFolder folder) → Narrows old new
narrows_failed_folder old new folder is = subst (λ (p : Past). Narrows old p) (sym is) (record { names = refl; bytes = refl; may_names = λ m may. may; may_bytes = λ f x may. may; unfailed = λ none. absurd none })

-- a sync of a file or of a folder, whether it fails or not
pub does_sync_file : {A E : Type 0} (path : List ℕ) (old new : Past) (result : Result A E) → Does (SyncedFile path) old new result → Narrows old new
does_sync_file path old new (Ok answer) does = narrows_file old new path does
does_sync_file path old new (Err fault) (inl same) = narrows_not old new same
does_sync_file path old new (Err fault) (inr (part, of, is)) = narrows_failed_file old new path (is ∙ ap (with_effect old) of)

pub does_sync_folder : {A E : Type 0} (folder : List ℕ) (old new : Past) (result : Result A E) → Does (SyncedFolder folder) old new result → Narrows old new
does_sync_folder folder old new (Ok answer) does = narrows_folder old new folder does
does_sync_folder folder old new (Err fault) (inl same) = narrows_not old new same
does_sync_folder folder old new (Err fault) (inr (part, of, is)) = narrows_failed_folder old new folder (is ∙ ap (with_effect old) of)

-- one that did not fail
pub file_unfailed_after : {A E : Type 0} (path : List ℕ) (old new : Past) (result : Result A E) → Does (SyncedFile path) old new result → OnOk result (IsUnfailed old → IsUnfailed new)
file_unfailed_after path old new (Ok answer) does = λ none. subst IsUnfailed (sym does) none
file_unfailed_after path old new (Err fault) does = tt

-- ---- sure bytes
pub sure_narrowed : (old new : Past) (q : List ℕ) → Narrows old new → HasSureBytes old q → HasSureBytes new q
sure_narrowed old new q less sure f at_path x may =
    sure f (ap (λ (n : Names). n q) (sym less.names) ∙ at_path) x (less.may_bytes f x may) ∙ ap (λ (b : File → List ℕ). b f) (sym less.bytes)

pub all_narrowed : (old new : Past) (first end : ℕ) → Narrows old new → AreSure old first end → AreSure new first end
all_narrowed old new first end less sure n from below = sure_narrowed old new _ less (sure n from below)

-- the file that was synced
sure_synced : (old : Past) (path : List ℕ) → IsUnfailed old → HasSureBytes (with_effect old (SyncedFile path)) path
sure_synced old path none f at_path x may = may.1 at_path (file_unfailed old.base old.effects f none)

pub file_sure : {A E : Type 0} (path : List ℕ) (old new : Past) (result : Result A E) → Does (SyncedFile path) old new result → OnOk result (IsUnfailed new → HasSureBytes new path)
file_sure path old new (Ok answer) does = λ none. subst (λ (p : Past). HasSureBytes p path) (sym does) (sure_synced old path (subst IsUnfailed does none))
file_sure path old new (Err fault) does = tt

pub segment_sure : {A E : Type 0} (segment : ℕ) (path : List ℕ) (old new : Past) (synced result : Result A E) → path ≡ segment_path segment → result ≡ synced → Does (SyncedFile path) old new synced
    → OnOk result (IsUnfailed new → HasSureBytes new (segment_path segment))
segment_sure {A} {E} segment path old new synced result named same does =
    subst (λ (r : Result A E). OnOk r (IsUnfailed new → HasSureBytes new (segment_path segment))) (sym same)
    (subst (λ (p : List ℕ). OnOk synced (IsUnfailed new → HasSureBytes new p)) named (file_sure path old new synced does))

-- a file at another path than the one that is appended to
sure_added : (old : Past) (path bytes q : List ℕ) → pointwise nat_eq path q ≡ false → HasSureBytes old q → HasSureBytes (with_effect old (Added path bytes)) q
sure_added old path bytes q differs sure f at_path x may =
    by may
  where
    others : (count : ℕ) (o : Option File) → added_to (names_after old.base old.effects) path count o q ≡ names_after old.base old.effects q
    others count None = set_other (names_after old.base old.effects) path q _ differs
    others count (Some g) = refl

    was : names_after old.base old.effects q ≡ Some f
    was = sym (others (suc (length old.effects)) (names_after old.base old.effects path)) ∙ at_path

    not_new : f.1 ≡ suc (length old.effects) → ⊥
    not_new new = (let le = seen_aged old.base old.effects q f was in omega (arith, new, le))

    not_it : names_after old.base old.effects path ≡ Some f → ⊥
    not_it is = (let same : path ≡ q = one_path old.base old.effects path q f is was in absurd (clash (pointwise nat_eq path q) (subst (λ (r : List ℕ). pointwise nat_eq path r ≡ true) same (same_text path)) differs))

    seen : bytes_after old.base (Added path bytes ∷ old.effects) f ≡ bytes_after old.base old.effects f
    seen = ap (λ (b : Bool). cond b bytes (cond (is_file (names_after old.base old.effects path) f) (bytes_after old.base old.effects f ++ bytes) (bytes_after old.base old.effects f))) (not_true (nat_eq f.1 (suc (length old.effects))) (λ e. not_new ((Decides-eqb f.1 (suc (length old.effects))).0 e)))
        ∙ ap (λ (b : Bool). cond b (bytes_after old.base old.effects f ++ bytes) (bytes_after old.base old.effects f)) (not_true (is_file (names_after old.base old.effects path) f) (λ e. not_it (the_file (names_after old.base old.effects path) f e)))

    by : MayBytes old.base (Added path bytes ∷ old.effects) f x → x ≡ bytes_after old.base (Added path bytes ∷ old.effects) f
    by (inl new) = absurd (not_new new)
    by (inr (inl may)) = sure f was x may ∙ sym seen
    by (inr (inr (least, may, is, front))) = absurd (not_it is)

-- an append, whether it fails or not
pub sure_grown : {A E : Type 0} (path bytes q : List ℕ) (old new : Past) (result : Result A E) → Does (Added path bytes) old new result → pointwise nat_eq path q ≡ false → HasSureBytes old q → HasSureBytes new q
sure_grown path bytes q old new (Ok answer) does differs sure = subst (λ (p : Past). HasSureBytes p q) (sym does) (sure_added old path bytes q differs sure)
sure_grown path bytes q old new (Err fault) (inl same) differs sure = subst (λ (p : Past). HasSureBytes p q) (sym same) sure
sure_grown path bytes q old new (Err fault) (inr (part, (n, of), is)) differs sure = subst (λ (p : Past). HasSureBytes p q) (sym (is ∙ ap (with_effect old) of)) (sure_added old path (take n bytes) q differs sure)

-- a removal
removed_seen : (m : Names) (path q : List ℕ) (o : Option File) (f : File) → removed m path o q ≡ Some f → m q ≡ Some f
removed_seen m path q None f is = is
removed_seen m path q (Some g) f is = by (either_of (pointwise nat_eq path q) None (m q) f is)
  where
    by : ((None ≡ Some f) ⊎ (m q ≡ Some f)) → m q ≡ Some f
    by (inl e) = absurd (cc)
    by (inr e) = e

sure_removed : (old : Past) (path q : List ℕ) → HasSureBytes old q → HasSureBytes (with_effect old (Removed path)) q
sure_removed old path q sure f at_path x may = sure f (removed_seen (names_after old.base old.effects) path q (names_after old.base old.effects path) f at_path) x may

pub sure_taken : {A E : Type 0} (path q : List ℕ) (old new : Past) (result : Result A E) → Does (Removed path) old new result → HasSureBytes old q → HasSureBytes new q
sure_taken path q old new (Ok answer) does sure = subst (λ (p : Past). HasSureBytes p q) (sym does) (sure_removed old path q sure)
sure_taken path q old new (Err fault) (inl same) sure = subst (λ (p : Past). HasSureBytes p q) (sym same) sure
sure_taken path q old new (Err fault) (inr (part, of, is)) sure = subst (λ (p : Past). HasSureBytes p q) (sym (is ∙ ap (with_effect old) of)) (sure_removed old path q sure)

-- if no sync has failed after an append or a removal, none had before
pub unfailed_grown : {A E : Type 0} (path bytes : List ℕ) (old new : Past) (result : Result A E) → Does (Added path bytes) old new result → IsUnfailed new → IsUnfailed old
unfailed_grown path bytes old new (Ok answer) does none = subst IsUnfailed does none
unfailed_grown path bytes old new (Err fault) (inl same) none = subst IsUnfailed same none
unfailed_grown path bytes old new (Err fault) (inr (part, (n, of), is)) none = subst IsUnfailed (is ∙ ap (with_effect old) of) none

pub unfailed_taken : {A E : Type 0} (path : List ℕ) (old new : Past) (result : Result A E) → Does (Removed path) old new result → IsUnfailed new → IsUnfailed old
unfailed_taken path old new (Ok answer) does none = subst IsUnfailed does none
unfailed_taken path old new (Err fault) (inl same) none = subst IsUnfailed same none
unfailed_taken path old new (Err fault) (inr (part, of, is)) none = subst IsUnfailed (is ∙ ap (with_effect old) of) none
