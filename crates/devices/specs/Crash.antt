-- What a loss of power may leave of a device (own). The names of a file and its bytes are kept apart, as inodes are.
-- What the device began with is on the disk, and the effects are all since then, those of earlier processes included.
-- Taken of POSIX: what fsync(2) of a file answered is kept for its bytes, and what fsync(2) of a folder answered for the names
-- right in it. Taken of file systems beyond POSIX: rename(2) changes both names at once or not at all, also over two folders;
-- bytes that were appended are lost from behind. Not taken: any order among changes of names, or between names and bytes; that a
-- sync of a file keeps its name; that a file that was written and not synced has any of its bytes, or a length. After a sync that
-- failed, the system may have dropped what it could not write, so a later sync of that file or folder keeps nothing. A
-- write over a file makes a new one: a system that empties the old one does so too if no change of the old one's path is unsynced.
use Rattle.std.specs.Prelude.{◌≡◌, ◌≢◌, ◌⊎◌, ◌&&◌, ℕ, suc, Bool, true, false, cond, List, [], ◌∷◌, ◌++◌, Option, Some, None, length, option_map, nat_eq}
use Rattle.std.specs.FinMap.{get}
use Rattle.std.specs.Cmp.Lexicographic.{pointwise}
use Rattle.devices.specs.Device.{Files, Effect, Wrote, Added, Moved, Removed, SyncedFile, SyncedFolder, FailedFile, FailedFolder, bytes_or_none}

-- which file it is: the path at which it was made, and how many effects there were then
abbrev pub File : Type 0
File = List ℕ × ℕ

-- files by path, as folders have them
abbrev pub Names : Type 0
Names = List ℕ → Option File

-- one path set
abbrev pub set : Names → List ℕ → Option File → Names
set names path file q = cond (pointwise nat_eq path q) file (names q)

-- a file moved; where there is none, nothing changed
abbrev pub moved : Names → List ℕ → List ℕ → Option File → Names
moved names from to (Some file) = set (set names from None) to (Some file)
moved names from to None = names

-- a file removed; where there is none, nothing changed
abbrev pub removed : Names → List ℕ → Option File → Names
removed names path (Some file) = set names path None
removed names path None = names

-- the names that a device begins with
abbrev pub first_names : Files → Names
first_names base q = option_map (λ (b : List ℕ). (q, 0)) (get base q)

-- the file that an append writes to: the one at the path, or a new one
abbrev pub added_to : Names → List ℕ → ℕ → Option File → Names
added_to names path count (Some file) = names
added_to names path count None = set names path (Some (path, count))

-- the names that are seen
abbrev pub names_after : Files → List Effect → Names
names_after base [] = first_names base
names_after base (Wrote path bytes ∷ past) = set (names_after base past) path (Some (path, suc (length past)))
names_after base (Added path bytes ∷ past) = added_to (names_after base past) path (suc (length past)) (names_after base past path)
names_after base (Moved from to ∷ past) = moved (names_after base past) from to (names_after base past from)
names_after base (Removed path ∷ past) = removed (names_after base past) path (names_after base past path)
names_after base (SyncedFile path ∷ past) = names_after base past
names_after base (SyncedFolder folder ∷ past) = names_after base past
names_after base (FailedFile path ∷ past) = names_after base past
names_after base (FailedFolder folder ∷ past) = names_after base past

-- it is this file
abbrev pub is_file : Option File → File → Bool
is_file None file = false
is_file (Some other) file = pointwise nat_eq other.0 file.0 && nat_eq other.1 file.1

-- the bytes of a file that are seen
abbrev pub bytes_after : Files → List Effect → File → List ℕ
bytes_after base [] file = bytes_or_none (get base file.0)
bytes_after base (Wrote path bytes ∷ past) file = cond (nat_eq file.1 (suc (length past))) bytes (bytes_after base past file)
bytes_after base (Added path bytes ∷ past) file = cond (nat_eq file.1 (suc (length past))) bytes (cond (is_file (names_after base past path) file) (bytes_after base past file ++ bytes) (bytes_after base past file))
bytes_after base (Moved from to ∷ past) file = bytes_after base past file
bytes_after base (Removed path ∷ past) file = bytes_after base past file
bytes_after base (SyncedFile path ∷ past) file = bytes_after base past file
bytes_after base (SyncedFolder folder ∷ past) file = bytes_after base past file
bytes_after base (FailedFile path ∷ past) file = bytes_after base past file
bytes_after base (FailedFolder folder ∷ past) file = bytes_after base past file

-- a sync of this file failed
abbrev pub has_failed : Files → List Effect → File → Bool
has_failed base [] file = false
has_failed base (FailedFile path ∷ past) file = cond (is_file (names_after base past path) file) true (has_failed base past file)
has_failed base (effect ∷ past) file = has_failed base past file

-- a sync of this folder failed
abbrev pub folder_has_failed : List Effect → List ℕ → Bool
folder_has_failed [] folder = false
folder_has_failed (FailedFolder other ∷ past) folder = cond (pointwise nat_eq other folder) true (folder_has_failed past folder)
folder_has_failed (effect ∷ past) folder = folder_has_failed past folder

-- the same names
abbrev pub Same : Names → Names → Type 0
Same m n = (q : List ℕ) → m q ≡ n q

-- none of these bytes is a slash
abbrev pub HasNoSlash : List ℕ → Type 0
HasNoSlash [] = Unit {0}
HasNoSlash (b ∷ bytes) = (b ≢ 47) × HasNoSlash bytes

-- the path is right in the folder
abbrev pub IsIn : List ℕ → List ℕ → Type 0
IsIn folder path = (rest : List ℕ) × (path ≡ folder ++ rest) × HasNoSlash rest

-- a change of names that was kept or was not
abbrev pub Either : Names → Names → Names → Type 0
Either m before now = Same m before ⊎ Same m now

-- the names that a loss of power may leave: each change since a sync was kept or was not
abbrev pub MayNames : Files → List Effect → Names → Type 0
MayNames base [] m = Same m (first_names base)
MayNames base (Wrote path bytes ∷ past) m = (d : Names) × MayNames base past d × Either m d (set d path (Some (path, suc (length past))))
MayNames base (Added path bytes ∷ past) m = (d : Names) × MayNames base past d × Either m d (added_to d path (suc (length past)) (names_after base past path))
MayNames base (Moved from to ∷ past) m = (d : Names) × MayNames base past d × Either m d (moved d from to (names_after base past from))
MayNames base (Removed path ∷ past) m = (d : Names) × MayNames base past d × Either m d (removed d path (names_after base past path))
MayNames base (SyncedFile path ∷ past) m = MayNames base past m
MayNames base (SyncedFolder folder ∷ past) m = MayNames base past m × (folder_has_failed past folder ≡ false → (q : List ℕ) → IsIn folder q → m q ≡ names_after base past q)
MayNames base (FailedFile path ∷ past) m = MayNames base past m
MayNames base (FailedFolder folder ∷ past) m = MayNames base past m

-- a front of the bytes that has all of another
abbrev pub IsFrontFrom : List ℕ → List ℕ → List ℕ → Type 0
IsFrontFrom least whole bytes = ((more : List ℕ) × (bytes ≡ least ++ more)) × ((rest : List ℕ) × (whole ≡ bytes ++ rest))

-- the bytes that a loss of power may leave in a file
abbrev pub MayBytes : Files → List Effect → File → List ℕ → Type 0
MayBytes base [] file x = x ≡ bytes_or_none (get base file.0)
MayBytes base (Wrote path bytes ∷ past) file x = (file.1 ≡ suc (length past)) ⊎ MayBytes base past file x
MayBytes base (Added path bytes ∷ past) file x = (file.1 ≡ suc (length past)) ⊎ (MayBytes base past file x ⊎ ((least : List ℕ) × MayBytes base past file least × (names_after base past path ≡ Some file) × IsFrontFrom least (bytes_after base past file ++ bytes) x))
MayBytes base (Moved from to ∷ past) file x = MayBytes base past file x
MayBytes base (Removed path ∷ past) file x = MayBytes base past file x
MayBytes base (SyncedFile path ∷ past) file x = MayBytes base past file x × (names_after base past path ≡ Some file → has_failed base past file ≡ false → x ≡ bytes_after base past file)
MayBytes base (SyncedFolder folder ∷ past) file x = MayBytes base past file x
MayBytes base (FailedFile path ∷ past) file x = MayBytes base past file x
MayBytes base (FailedFolder folder ∷ past) file x = MayBytes base past file x

-- what is at one path
abbrev pub Stands : Files → List Effect → Option File → Option (List ℕ) → Type 0
Stands base past None found = found ≡ None
Stands base past (Some file) found = (x : List ℕ) × (found ≡ Some x) × MayBytes base past file x

-- a loss of power may leave these files
abbrev pub MayLeave : Files → List Effect → Files → Type 0
MayLeave base past left = (m : Names) × MayNames base past m × ((q : List ℕ) → Stands base past (m q) (get left q))
