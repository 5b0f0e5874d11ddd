-- A file that takes the place of another (own): a part is written anew, appended to and synced, and then renamed.
use Rattle.std.specs.Prelude.{◌≡◌, ◌⊎◌, ℕ, List, [], ◌∷◌, Option, Some}
use Rattle.std.specs.FinMap.{get}
use Rattle.devices.specs.Crash.{MayNames, Names, Stands}
use Rattle.devices.specs.Device.{Effect, Past, Wrote, Added, Moved, Removed, SyncedFile, SyncedFolder, FailedFile, FailedFolder, files_of, with_effect}
use Rattle.devices.specs.Moments.{past_with}

-- a loss of power may leave this at a path
abbrev pub MayStand : Past → List ℕ → Option (List ℕ) → Type 0
MayStand past path found = (names : Names) × MayNames past.base past.effects names × Stands past.base past.effects (names path) found

-- whatever a loss of power leaves at a path, it is this
abbrev pub IsSure : Past → List ℕ → Option (List ℕ) → Type 0
IsSure past path found = (left : Option (List ℕ)) → MayStand past path left → left ≡ found

-- whatever a loss of power leaves at a path, it might have left it there in the older past
abbrev pub LeavesAs : Past → List ℕ → Past → Type 0
LeavesAs old path past = (left : Option (List ℕ)) → MayStand past path left → MayStand old path left

-- the same, or it is this text
abbrev pub LeavesAsOr : Past → List ℕ → List ℕ → Past → Type 0
LeavesAsOr old path text past = (left : Option (List ℕ)) → MayStand past path left → MayStand old path left ⊎ (left ≡ Some text)

-- the effect writes to the file at this path, or syncs it
abbrev pub IsOf : List ℕ → Effect → Type 0
IsOf path (Wrote other bytes) = other ≡ path
IsOf path (Added other bytes) = other ≡ path
IsOf path (Moved from to) = ⊥
IsOf path (Removed other) = ⊥
IsOf path (SyncedFile other) = other ≡ path
IsOf path (SyncedFolder folder) = ⊥
IsOf path (FailedFile other) = other ≡ path
IsOf path (FailedFolder folder) = ⊥

abbrev pub AreOf : List ℕ → List Effect → Type 0
AreOf path [] = Unit {0}
AreOf path (effect ∷ effects) = IsOf path effect × AreOf path effects

-- the effect appends to the file at this path
abbrev pub IsAppend : List ℕ → Effect → Type 0
IsAppend path (Wrote other bytes) = ⊥
IsAppend path (Added other bytes) = other ≡ path
IsAppend path (Moved from to) = ⊥
IsAppend path (Removed other) = ⊥
IsAppend path (SyncedFile other) = ⊥
IsAppend path (SyncedFolder folder) = ⊥
IsAppend path (FailedFile other) = ⊥
IsAppend path (FailedFolder folder) = ⊥

abbrev pub AreAppends : List ℕ → List Effect → Type 0
AreAppends path [] = Unit {0}
AreAppends path (effect ∷ effects) = IsAppend path effect × AreAppends path effects

-- nothing was done, or a file was written anew at this path, and then written to and synced
abbrev pub WritesPart : List ℕ → Past → Past → Type 0
WritesPart path old new = (new ≡ old) ⊎ ((first : List ℕ) × (done : List Effect) × AreOf path done × (new ≡ past_with (with_effect old (Wrote path first)) done))

-- a file of this text was written anew at this path, in pieces, and synced
pub record IsWritten (path text : List ℕ) (old new : Past) : Type 0 where
  pub pieces : List Effect
  pub each : AreAppends path pieces
  pub all : new ≡ past_with (with_effect old (Wrote path [])) (SyncedFile path ∷ pieces)
  pub bytes : get (files_of new) path ≡ Some text

-- a part that is not wanted: nothing was done, or the file at this path was removed
abbrev pub DropsPart : List ℕ → Past → Past → Type 0
DropsPart path old new = (new ≡ old) ⊎ (new ≡ with_effect old (Removed path))

-- a file is moved to a path, and the names in its folder are synced
abbrev pub placing : List ℕ → List ℕ → List ℕ → List Effect
placing part path folder = Moved part path ∷ SyncedFolder folder ∷ []
