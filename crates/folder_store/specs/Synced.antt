-- What syncs leave (own): which of them were answered, and in which order.
use Rattle.std.specs.Prelude.{◌≡◌, ◌<◌, ◌⊎◌, ◌==◌, ◌&&◌, ℕ, zero, suc, cond, Bool, true, false, List, [], ◌∷◌, ◌++◌, Result, Ok, Err, All, slice_index_or}
use Rattle.std.specs.List.{Contains}
use Rattle.std.specs.FinMap.{keys}
use Rattle.devices.specs.Device.{Effect, Past, Does, Wrote, Added, Moved, Removed, SyncedFile, SyncedFolder, FailedFile, FailedFolder, files_of, names_in_folder, with_effect}
use Rattle.devices.specs.declared.device.DeviceFault.{DeviceFault}
use Rattle.devices.specs.declared.device.DeviceFault.TheVariants.{Device, Unopened, Missing, Memory, Room}
use Rattle.loose_store.specs.Durability.{Durability}
use Rattle.loose_store.specs.Files.{Files}
use Rattle.folder_store.specs.Place.{home_with, place_of}

-- a sync that was answered
abbrev pub IsSync : Effect → Type 0
IsSync (Wrote path bytes) = ⊥
IsSync (Added path bytes) = ⊥
IsSync (Moved from to) = ⊥
IsSync (Removed path) = ⊥
IsSync (SyncedFile path) = Unit {0}
IsSync (SyncedFolder folder) = Unit {0}
IsSync (FailedFile path) = ⊥
IsSync (FailedFolder folder) = ⊥

-- these syncs were answered, the newest first, and nothing else was done
pub record OnlySyncs (done : List Effect) (old new : Past) : Type 0 where
  pub syncs : All IsSync done
  pub past : new ≡ record old { effects = done ++ old.effects }

-- nothing but syncs was done, and each was answered
abbrev pub HasOnlySyncs : Past → Past → Type 0
HasOnlySyncs old new = (done : List Effect) × OnlySyncs done old new

-- the folder of the names that begin with this byte
abbrev pub home_at : ℕ → List ℕ
home_at first = home_with (first ∷ [])

-- no file is in the folder of the names that begin with this byte
abbrev pub HasNone : ℕ → Files → Type 0
HasNone first files = names_in_folder (home_at first) (keys files) ≡ []

-- the folder is among those that were synced, or no file is in it
abbrev pub IsHomeSynced : ℕ → List Effect → Files → Type 0
IsHomeSynced first done files = Contains done (SyncedFolder (home_at first)) ⊎ HasNone first files

-- a sync of the folder of the names that begin with this byte. If no file is in it, it may be missing
abbrev pub SyncsHome : {A : Type 0} → ℕ → Past → Past → Result A DeviceFault → Type 0
SyncsHome first old new (Ok answer) = (new ≡ with_effect old (SyncedFolder (home_at first))) ⊎ ((new ≡ old) × HasNone first (files_of old))
SyncsHome {A} first old new (Err fault) = Does {A = A} {E = DeviceFault} (SyncedFolder (home_at first)) old new (Err fault)

-- whether a sync failed, once this result is known too
abbrev pub failed_after : {A : Type 0} → Bool → Result A DeviceFault → Bool
failed_after before (Ok answer) = before
failed_after before (Err Device) = true
failed_after before (Err Unopened) = before
failed_after before (Err Missing) = before
failed_after before (Err Memory) = before
failed_after before (Err Room) = before

-- the first byte of a name
abbrev pub first_of : List ℕ → ℕ
first_of name = slice_index_or name 0 0

-- the folder of the names that begin with this byte is marked
abbrev pub IsMarked : List Bool → ℕ → Type 0
IsMarked homes first = (first < 256) × (slice_index_or homes first false ≡ true)

-- it is not
abbrev pub IsUnmarked : List Bool → ℕ → Type 0
IsUnmarked homes first = slice_index_or homes first false ≡ false

-- none of so many folders is marked
abbrev pub none_of : ℕ → List Bool → Bool
none_of zero homes = true
none_of (suc first) homes = cond (slice_index_or homes first false) false (none_of first homes)

-- no file is noted, and no folder is marked
abbrev pub are_synced : ℕ → List Bool → Bool
are_synced noted homes = (noted == 0) && none_of 256 homes

-- what may be undone of a folder: what is noted or marked, and removals while there may be swept files
abbrev pub durability_of : ℕ → List Bool → Bool → Durability
durability_of noted homes has_swept = record { synced = are_synced noted homes; removed = has_swept }

-- of the noted files each was synced and its folder marked, or is still noted; and marks stay
pub record SyncsFiles (noted left : List ℕ → Bool) (homes marked : List Bool) (old new : Past) : Type 0 where
  pub done : List Effect
  pub only : OnlySyncs done old new
  pub files : (name : List ℕ) → noted name ≡ true → (left name ≡ true) ⊎ (Contains done (SyncedFile (place_of name)) × IsMarked marked (first_of name))
  pub marks : (first : ℕ) → IsMarked homes first → IsMarked marked first

-- of the marked folders each was synced, or is still marked
pub record SyncsHomes (homes marked : List Bool) (old new : Past) : Type 0 where
  pub done : List Effect
  pub only : OnlySyncs done old new
  pub folders : (first : ℕ) → IsMarked homes first → IsMarked marked first ⊎ IsHomeSynced first done (files_of old)

-- first files were synced, and then folders
pub record SyncsBoth (noted left : List ℕ → Bool) (homes now : List Bool) (old new : Past) : Type 0 where
  pub between : Past
  pub marked : List Bool
  pub files : SyncsFiles noted left homes marked old between
  pub folders : SyncsHomes marked now between new

-- only syncs were done, and all were answered: first of all noted files, and then of their folders, and of the marked ones
pub record AreSynced (noted : List ℕ → Bool) (homes : List Bool) (old new : Past) : Type 0 where
  pub files : List Effect
  pub folders : List Effect
  pub only : OnlySyncs (folders ++ files) old new
  pub each : (name : List ℕ) → noted name ≡ true → Contains files (SyncedFile (place_of name)) × IsHomeSynced (first_of name) folders (files_of old)
  pub marks : (first : ℕ) → IsMarked homes first → IsHomeSynced first folders (files_of old)
