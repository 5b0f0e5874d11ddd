-- The file of the state in a host's folder, and its part (own).
use Rattle.std.specs.Prelude.{◌≡◌, ◌⊎◌, ℕ, false, List, [], ◌∷◌, codes, Option, Some, Result, Ok}
use Rattle.std.specs.FinMap.{get}
use Rattle.devices.specs.Crash.{File, folder_has_failed, has_failed, names_after}
use Rattle.devices.specs.Device.{Effect, Past, SyncedFile, SyncedFolder, files_of}
use Rattle.devices.specs.Moments.{LeavesOnly}
use Rattle.devices.specs.Parts.{DropsPart, WritesPart, placing}
use Rattle.devices.specs.Runs.{Runs}
use Rattle.devices.specs.declared.device.DeviceFault.{DeviceFault}

-- a file that is written before it has its name
abbrev pub part_file : List ℕ
part_file = codes "part"

abbrev pub state_file : List ℕ
state_file = codes "state"

-- a part was written, and may have been dropped
abbrev pub TriesPart : Past → Past → Type 0
TriesPart old new = (mid : Past) × WritesPart part_file old mid × DropsPart part_file mid new

-- the part became the state, and the names in the folder were synced
abbrev pub PlacesPart : Past → Past → Type 0
PlacesPart old new = Runs {A = Unit {0}} {E = DeviceFault} (placing part_file state_file []) old new (Ok tt)

-- that was done, or tried
abbrev pub TriesPlace : Past → Past → Type 0
TriesPlace old new = (result : Result (Unit {0}) DeviceFault) × Runs (placing part_file state_file []) old new result

-- that was done, or tried, or not, and then the part may have been dropped
abbrev pub SettlesPart : Past → Past → Type 0
SettlesPart old new = (mid : Past) × TriesPlace old mid × DropsPart part_file mid new

-- a loss of power leaves this state
abbrev pub LeavesState : Option (List ℕ) → Past → Type 0
LeavesState before = LeavesOnly (λ left. get left state_file ≡ before)

-- a loss of power leaves this state, or one of this text
abbrev pub LeavesStateOr : Option (List ℕ) → List ℕ → Past → Type 0
LeavesStateOr before text = LeavesOnly (λ left. (get left state_file ≡ before) ⊎ (get left state_file ≡ Some text))

-- the state is synced, and then the names in the folder
abbrev pub syncing : List Effect
syncing = SyncedFile state_file ∷ SyncedFolder [] ∷ []

-- a read shows this state, and no sync of its file or of the folder has failed
pub record IsShown (text : List ℕ) (past : Past) : Type 0 where
  pub shown : get (files_of past) state_file ≡ Some text
  pub file : (file : File) → names_after past.base past.effects state_file ≡ Some file → has_failed past.base past.effects file ≡ false
  pub folder : folder_has_failed past.effects [] ≡ false
