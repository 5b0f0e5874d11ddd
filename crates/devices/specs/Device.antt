-- What is done to a device (own): effects on files by their paths, the newest first, and the files that they make.
-- A path is relative to the folder of the device. A folder is written with a slash at its end, and the device's own as nothing.
use Rattle.std.specs.Prelude.{◌≡◌, ◌≢◌, ◌⊎◌, ◌+◌, ℕ, cond, nat_eq, nat_le, List, [], ◌∷◌, ◌++◌, Option, Some, None, Result, Ok, Err, IfErr, take, drop, length, flat_map}
use Rattle.std.specs.List.{list_any}
use Rattle.std.specs.FinMap.{FinMap, get, insert, remove}
use Rattle.std.specs.Ordering.{nat_cmp}
use Rattle.std.specs.Cmp.Lexicographic.{slice_cmp, pointwise}
use Rattle.devices.specs.declared.device.DeviceFault.{DeviceFault}
use Rattle.devices.specs.declared.device.DeviceFault.TheVariants.{Device, Room}

-- bytes by path
abbrev pub Files : Type 0
Files = FinMap (slice_cmp nat_cmp) (List ℕ)

-- one change of a device, one sync that was answered, or one that failed
pub data Effect : Type 0 where
  Wrote : (path bytes : List ℕ) → Effect
  Added : (path bytes : List ℕ) → Effect
  Moved : (from to : List ℕ) → Effect
  Removed : (path : List ℕ) → Effect
  SyncedFile : (path : List ℕ) → Effect
  SyncedFolder : (folder : List ℕ) → Effect
  FailedFile : (path : List ℕ) → Effect
  FailedFolder : (folder : List ℕ) → Effect

-- what a device began with, and what was done to it since, the newest first
pub record Past : Type 0 where
  pub base : Files
  pub effects : List Effect

-- the bytes of a file, and none if it does not exist
abbrev pub bytes_or_none : Option (List ℕ) → List ℕ
bytes_or_none (Some bytes) = bytes
bytes_or_none None = []

-- the file, if there is one, under another path
abbrev pub put_there : Files → List ℕ → Option (List ℕ) → Files
put_there files path (Some bytes) = insert files path bytes
put_there files path None = files

-- the files that a read shows
abbrev pub files_after : Files → List Effect → Files
files_after base [] = base
files_after base (Wrote path bytes ∷ past) = insert (files_after base past) path bytes
files_after base (Added path bytes ∷ past) = insert (files_after base past) path (bytes_or_none (get (files_after base past) path) ++ bytes)
files_after base (Moved from to ∷ past) = put_there (remove (files_after base past) from) to (get (files_after base past) from)
files_after base (Removed path ∷ past) = remove (files_after base past) path
files_after base (SyncedFile path ∷ past) = files_after base past
files_after base (SyncedFolder folder ∷ past) = files_after base past
files_after base (FailedFile path ∷ past) = files_after base past
files_after base (FailedFolder folder ∷ past) = files_after base past

abbrev pub files_of : Past → Files
files_of past = files_after past.base past.effects

-- one more effect
abbrev pub with_effect : Past → Effect → Past
with_effect past effect = record past { effects = effect ∷ past.effects }

-- what a call that fails may have done: of a write the front of its bytes, of a sync that it failed, and of any other all
abbrev pub IsPart : Effect → Effect → Type 0
IsPart (Wrote path bytes) part = (n : ℕ) × (part ≡ Wrote path (take n bytes))
IsPart (Added path bytes) part = (n : ℕ) × (part ≡ Added path (take n bytes))
IsPart (SyncedFile path) part = part ≡ FailedFile path
IsPart (SyncedFolder folder) part = part ≡ FailedFolder folder
IsPart (Moved from to) part = part ≡ Moved from to
IsPart (Removed path) part = part ≡ Removed path
IsPart (FailedFile path) part = part ≡ FailedFile path
IsPart (FailedFolder folder) part = part ≡ FailedFolder folder

-- a call has its effect; if it fails, none of it, or what a call that fails may have done
abbrev pub Does : {A E : Type 0} → Effect → Past → Past → Result A E → Type 0
Does effect old new (Ok answer) = new ≡ with_effect old effect
Does effect old new (Err fault) = (new ≡ old) ⊎ ((part : Effect) × IsPart effect part × (new ≡ with_effect old part))

-- unless the fault is `Device`, nothing was tried
abbrev pub Untried : {A : Type 0} → Past → Past → Result A DeviceFault → Type 0
Untried old new result = IfErr result (λ fault. fault ≢ Device → new ≡ old)

-- if there was no room, nothing was done
abbrev pub Unroomed : {A : Type 0} → Past → Past → Result A DeviceFault → Type 0
Unroomed old new result = IfErr result (λ fault. fault ≡ Room → new ≡ old)

-- the bytes of a file that a read with this bound returns: none if there are more
abbrev pub within : ℕ → List ℕ → List ℕ
within most bytes = cond (nat_le (length bytes) most) bytes []

-- these bytes of a file, if it has so many
abbrev pub part_of : ℕ → ℕ → List ℕ → Option (List ℕ)
part_of at len bytes = cond (nat_le (at + len) (length bytes)) (Some (take len (drop at bytes))) None

-- a name, or none
abbrev pub names_of : Option (List ℕ) → List (List ℕ)
names_of (Some name) = name ∷ []
names_of None = []

-- a name without a slash
abbrev pub plain : List ℕ → List (List ℕ)
plain name = cond (list_any (λ b. nat_eq b 47) name) [] (name ∷ [])

-- the name that a path has right in a folder, if it is there
abbrev pub name_in_folder : List ℕ → List ℕ → List (List ℕ)
name_in_folder folder path = cond (pointwise nat_eq (take (length folder) path) folder) (plain (drop (length folder) path)) []

-- the names of the files right in a folder, ascending
abbrev pub names_in_folder : List ℕ → List (List ℕ) → List (List ℕ)
names_in_folder folder paths = flat_map (name_in_folder folder) paths
