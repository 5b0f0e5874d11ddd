-- What is left of a device by a choice of what a loss of power keeps (own). An effect's place is the number of effects before it.
use Rattle.std.specs.Prelude.{◌≡◌, ◌⊎◌, ◌||◌, ℕ, suc, Bool, true, false, not, cond, List, [], ◌∷◌, ◌++◌, Option, Some, None, length, take, drop, replicate, nat_eq, nat_le, option_and_then, option_map}
use Rattle.std.specs.FinMap.{get, keys}
use Rattle.std.specs.List.{list_any, slice_get}
use Rattle.std.specs.Ordering.{eq_by_cmp}
use Rattle.std.specs.Cmp.Lexicographic.{pointwise}
use Rattle.devices.specs.Crash.{File, Names, Stands, first_names, names_after, bytes_after, is_file, has_failed, folder_has_failed}
use Rattle.devices.specs.Device.{Files, Effect, Wrote, Added, Moved, Removed, SyncedFile, SyncedFolder, FailedFile, FailedFolder, bytes_or_none, name_in_folder}
use Rattle.git_name.specs.Name.{name_cmp}
use Rattle.devices.specs.declared.fate.Fate.{Fate}

-- the path whose file decides what an effect does to the names
abbrev pub source_in : Effect → Option (List ℕ)
source_in (Wrote path bytes) = None
source_in (Added path bytes) = Some path
source_in (Moved from to) = Some from
source_in (Removed path) = Some path
source_in (SyncedFile path) = None
source_in (SyncedFolder folder) = None
source_in (FailedFile path) = None
source_in (FailedFolder folder) = None

-- the path at which an effect may put a file
abbrev pub target_in : Effect → Option (List ℕ)
target_in (Wrote path bytes) = Some path
target_in (Added path bytes) = Some path
target_in (Moved from to) = Some to
target_in (Removed path) = None
target_in (SyncedFile path) = None
target_in (SyncedFolder folder) = None
target_in (FailedFile path) = None
target_in (FailedFolder folder) = None

-- the effect may change which file is at a path
abbrev pub touches : Effect → List ℕ → Bool
touches (Wrote path bytes) q = pointwise nat_eq path q
touches (Added path bytes) q = pointwise nat_eq path q
touches (Moved from to) q = pointwise nat_eq from q || pointwise nat_eq to q
touches (Removed path) q = pointwise nat_eq path q
touches (SyncedFile path) q = false
touches (SyncedFolder folder) q = false
touches (FailedFile path) q = false
touches (FailedFolder folder) q = false

-- the folder that an effect synced
abbrev pub folder_in : Effect → Option (List ℕ)
folder_in (Wrote path bytes) = None
folder_in (Added path bytes) = None
folder_in (Moved from to) = None
folder_in (Removed path) = None
folder_in (SyncedFile path) = None
folder_in (SyncedFolder folder) = Some folder
folder_in (FailedFile path) = None
folder_in (FailedFolder folder) = None

-- the folder of which an effect is a failed sync
abbrev pub failed_folder_in : Effect → Option (List ℕ)
failed_folder_in (Wrote path bytes) = None
failed_folder_in (Added path bytes) = None
failed_folder_in (Moved from to) = None
failed_folder_in (Removed path) = None
failed_folder_in (SyncedFile path) = None
failed_folder_in (SyncedFolder folder) = None
failed_folder_in (FailedFile path) = None
failed_folder_in (FailedFolder folder) = Some folder

-- the file that an effect synced
abbrev pub synced_in : Effect → Option (List ℕ)
synced_in (Wrote path bytes) = None
synced_in (Added path bytes) = None
synced_in (Moved from to) = None
synced_in (Removed path) = None
synced_in (SyncedFile path) = Some path
synced_in (SyncedFolder folder) = None
synced_in (FailedFile path) = None
synced_in (FailedFolder folder) = None

-- the file of which an effect is a failed sync
abbrev pub failed_in : Effect → Option (List ℕ)
failed_in (Wrote path bytes) = None
failed_in (Added path bytes) = None
failed_in (Moved from to) = None
failed_in (Removed path) = None
failed_in (SyncedFile path) = None
failed_in (SyncedFolder folder) = None
failed_in (FailedFile path) = Some path
failed_in (FailedFolder folder) = None

-- the bytes that an effect appended, and where
abbrev pub added_in : Effect → Option (List ℕ × List ℕ)
added_in (Wrote path bytes) = None
added_in (Added path bytes) = Some (path, bytes)
added_in (Moved from to) = None
added_in (Removed path) = None
added_in (SyncedFile path) = None
added_in (SyncedFolder folder) = None
added_in (FailedFile path) = None
added_in (FailedFolder folder) = None

-- the bytes that an effect wrote into a file, if it may have made it
abbrev pub written_in : Effect → Option (List ℕ)
written_in (Wrote path bytes) = Some bytes
written_in (Added path bytes) = Some bytes
written_in (Moved from to) = None
written_in (Removed path) = None
written_in (SyncedFile path) = None
written_in (SyncedFolder folder) = None
written_in (FailedFile path) = None
written_in (FailedFolder folder) = None

-- the bytes with which an effect of this number made a file of that number, if it did
abbrev pub made_in : Effect → ℕ → ℕ → Option (List ℕ)
made_in effect number file = cond (nat_eq file number) (written_in effect) None

-- a sync is sure to have kept the bytes of a file
abbrev pub is_sure : Files → List Effect → Option (List ℕ) → File → Bool
is_sure base past None file = false
is_sure base past (Some path) file = cond (is_file (names_after base past path) file) (not (has_failed base past file)) false

-- the file at a path after an effect: from the effect's number, the file of its source, and the file that was at the path
abbrev pub changed : Effect → ℕ → Option File → Option File → List ℕ → Option File
changed (Wrote path bytes) number source before q = cond (pointwise nat_eq path q) (Some (path, number)) before
changed (Added path bytes) number None before q = cond (pointwise nat_eq path q) (Some (path, number)) before
changed (Added path bytes) number (Some file) before q = before
changed (Moved from to) number None before q = before
changed (Moved from to) number (Some file) before q = cond (pointwise nat_eq to q) (Some file) (cond (pointwise nat_eq from q) None before)
changed (Removed path) number None before q = before
changed (Removed path) number (Some file) before q = cond (pointwise nat_eq path q) None before
changed (SyncedFile path) number source before q = before
changed (SyncedFolder folder) number source before q = before
changed (FailedFile path) number source before q = before
changed (FailedFolder folder) number source before q = before

-- the file of an effect's source, as it is seen
abbrev pub source_seen : Files → List Effect → Effect → Option File
source_seen base past effect = option_and_then (names_after base past) (source_in effect)

-- the names that are left if just these changes are kept
abbrev pub left_names : Files → (Effect → ℕ → Bool) → List Effect → Names
left_names base kept [] q = first_names base q
left_names base kept (effect ∷ past) q = cond (kept effect (length past)) (changed effect (suc (length past)) (source_seen base past effect) (left_names base kept past q) q) (left_names base kept past q)

-- there is one
abbrev pub is_any : List (List ℕ) → Bool
is_any [] = false
is_any (name ∷ names) = true

-- the path is right in the folder
abbrev pub is_right_in : List ℕ → List ℕ → Bool
is_right_in folder path = is_any (name_in_folder folder path)

-- the effect changes a name right in the folder
abbrev pub changes_in : List ℕ → Effect → Bool
changes_in folder (Wrote path bytes) = is_right_in folder path
changes_in folder (Added path bytes) = is_right_in folder path
changes_in folder (Moved from to) = cond (is_right_in folder from) true (is_right_in folder to)
changes_in folder (Removed path) = is_right_in folder path
changes_in folder (SyncedFile path) = false
changes_in folder (SyncedFolder other) = false
changes_in folder (FailedFile path) = false
changes_in folder (FailedFolder other) = false

-- a sync of this folder, after this past, keeps the effect's change of names
abbrev pub keeps : Option (List ℕ) → List Effect → Effect → Bool
keeps None past effect = false
keeps (Some folder) past effect = cond (folder_has_failed past folder) false (changes_in folder effect)

-- a sync of a folder after the effect keeps its change of names
abbrev pub is_synced : List Effect → Effect → ℕ → Bool
is_synced [] effect place = false
is_synced (newest ∷ past) effect place = cond (nat_le (length past) place) false (cond (keeps (folder_in newest) past effect) true (is_synced past effect place))

-- a choice keeps the change of names
abbrev pub is_chosen : Option Fate → Bool
is_chosen None = true
is_chosen (Some fate) = fate.is_kept

-- the changes of names that are kept: those that were synced, and those that are chosen
abbrev pub kept_in : List Fate → List Effect → Effect → ℕ → Bool
kept_in fates whole effect place = cond (is_chosen (slice_get fates place)) true (is_synced whole effect place)

-- of bytes that were written, as many as a fate says: all without one
abbrev pub front_by : Option Fate → List ℕ → List ℕ
front_by None bytes = bytes
front_by (Some fate) bytes = take fate.bytes bytes

-- of bytes with which a file was made: a front of them, and then other bytes, as a fate says
abbrev pub damaged_by : Option Fate → List ℕ → List ℕ
damaged_by None bytes = bytes
damaged_by (Some fate) bytes = take fate.bytes bytes ++ replicate fate.others fate.other

-- after an append: what was left before it, and as much of the rest of the whole as a fate says, if the whole begins so
abbrev pub grown_by : Option Fate → List ℕ → List ℕ → List ℕ
grown_by fate left whole = cond (pointwise nat_eq (take (length left) whole) left) (left ++ front_by fate (drop (length left) whole)) left

-- the bytes that are left in a file: of each effect since the last sure sync of the file, what its fate says
abbrev pub left_bytes : Files → List Fate → List Effect → File → List ℕ
left_bytes base fates [] file = bytes_or_none (get base file.0)
left_bytes base fates (Wrote path bytes ∷ past) file = cond (nat_eq file.1 (suc (length past))) (damaged_by (slice_get fates (length past)) bytes) (left_bytes base fates past file)
left_bytes base fates (Added path bytes ∷ past) file = cond (nat_eq file.1 (suc (length past))) (damaged_by (slice_get fates (length past)) bytes) (cond (is_file (names_after base past path) file) (grown_by (slice_get fates (length past)) (left_bytes base fates past file) (bytes_after base past file ++ bytes)) (left_bytes base fates past file))
left_bytes base fates (Moved from to ∷ past) file = left_bytes base fates past file
left_bytes base fates (Removed path ∷ past) file = left_bytes base fates past file
left_bytes base fates (SyncedFile path ∷ past) file = cond (is_sure base past (Some path) file) (bytes_after base past file) (left_bytes base fates past file)
left_bytes base fates (SyncedFolder folder ∷ past) file = left_bytes base fates past file
left_bytes base fates (FailedFile path ∷ past) file = left_bytes base fates past file
left_bytes base fates (FailedFolder folder ∷ past) file = left_bytes base fates past file

-- what is left at a path
abbrev pub left_at : Files → List Fate → List Effect → List ℕ → Option (List ℕ)
left_at base fates past path = option_map (left_bytes base fates past) (left_names base (kept_in fates past) past path)

-- these paths, and one more if there is one
abbrev pub with_target : List (List ℕ) → Option (List ℕ) → List (List ℕ)
with_target paths None = paths
with_target paths (Some path) = paths ++ path ∷ []

-- the paths at which there may be a file
abbrev pub paths_of : Files → List Effect → List (List ℕ)
paths_of base [] = keys base
paths_of base (effect ∷ past) = with_target (paths_of base past) (target_in effect)

-- the path is none of these
abbrev pub Lacks : List (List ℕ) → List ℕ → Type 0
Lacks paths q = list_any (eq_by_cmp name_cmp q) paths ≡ false

-- at each of these paths there is what is left there; at any other too, or nothing
abbrev pub ArePlaced : Files → List Effect → Names → List (List ℕ) → Files → Type 0
ArePlaced base past m paths left = (q : List ℕ) → Stands base past (m q) (get left q) ⊎ ((get left q ≡ None) × Lacks paths q)
