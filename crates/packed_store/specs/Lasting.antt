-- What of the segments is sure (own): what is there as it is seen, whatever a loss of power leaves.
use Rattle.std.specs.Prelude.{◌≡◌, ◌≤◌, ◌<◌, ℕ, Bool, not, List, [], ◌∷◌, Option, Some, None, codes}
use Rattle.std.specs.FinMap.{get}
use Rattle.devices.specs.Crash.{File, IsIn, MayBytes, MayNames, Names, Stands, bytes_after, names_after}
use Rattle.devices.specs.Device.{Effect, Past, Wrote, Added, Moved, Removed, SyncedFile, SyncedFolder, FailedFile, FailedFolder, files_of}
use Rattle.loose_store.specs.Durability.{Durability}
use Rattle.packed_store.specs.Place.{segment_path}
use Rattle.packed_store.specs.declared.place.TheConstants.{LAST_SEGMENT}

-- none of these is a sync that failed
abbrev pub HaveNoFailure : List Effect → Type 0
HaveNoFailure [] = Unit {0}
HaveNoFailure (Wrote path bytes ∷ past) = HaveNoFailure past
HaveNoFailure (Added path bytes ∷ past) = HaveNoFailure past
HaveNoFailure (Moved from to ∷ past) = HaveNoFailure past
HaveNoFailure (Removed path ∷ past) = HaveNoFailure past
HaveNoFailure (SyncedFile path ∷ past) = HaveNoFailure past
HaveNoFailure (SyncedFolder folder ∷ past) = HaveNoFailure past
HaveNoFailure (FailedFile path ∷ past) = ⊥
HaveNoFailure (FailedFolder folder ∷ past) = ⊥

-- no sync has failed
abbrev pub IsUnfailed : Past → Type 0
IsUnfailed past = HaveNoFailure past.effects

-- whatever a loss of power leaves of the bytes of the file that is seen at a path, it is all of them
abbrev pub HasSureBytes : Past → List ℕ → Type 0
HasSureBytes past path = (file : File) → names_after past.base past.effects path ≡ Some file → (bytes : List ℕ) → MayBytes past.base past.effects file bytes → bytes ≡ bytes_after past.base past.effects file

-- the segments from one number on and below another have sure bytes
abbrev pub AreSure : Past → ℕ → ℕ → Type 0
AreSure past first end = (segment : ℕ) → first ≤ segment → segment < end → HasSureBytes past (segment_path segment)

-- what may be undone of segments: what was written and not synced, and removals that are not final
abbrev pub durability_of : Bool → Bool → Durability
durability_of is_dirty has_removed = record { synced = not is_dirty; removed = has_removed }

-- if a file is seen right in a folder, a loss of power leaves there the names that are seen
abbrev pub HasSureNames : List ℕ → Past → Type 0
HasSureNames folder past = (there : List ℕ) (file : File) → IsIn folder there → names_after past.base past.effects there ≡ Some file
    → (names : Names) → MayNames past.base past.effects names → (path : List ℕ) → IsIn folder path → names path ≡ names_after past.base past.effects path

-- whatever a loss of power leaves at the path of a segment is what a read shows there
abbrev pub IsLasting : Past → ℕ → Type 0
IsLasting past segment = (names : Names) → MayNames past.base past.effects names → (found : Option (List ℕ)) → Stands past.base past.effects (names (segment_path segment)) found → found ≡ get (files_of past) (segment_path segment)

-- a file is right in the folder of the segments
abbrev pub HasSegment : Past → Type 0
HasSegment past = (path : List ℕ) × (bytes : List ℕ) × IsIn (codes "segments/") path × (get (files_of past) path ≡ Some bytes)

-- the segments from one number on, up to another one, last, and those that do not exist do not come back
pub record AreLasting (past : Past) (first last : ℕ) : Type 0 where
  pub there : (segment : ℕ) → segment ≤ LAST_SEGMENT → first ≤ segment → segment ≤ last → IsLasting past segment
  pub gone : (segment : ℕ) → segment ≤ LAST_SEGMENT → get (files_of past) (segment_path segment) ≡ None → IsLasting past segment

-- whatever a loss of power leaves, each segment is what a read shows, and there is no other one
abbrev pub AllLast : Past → Type 0
AllLast past = (segment : ℕ) → 0 < segment → segment ≤ LAST_SEGMENT → IsLasting past segment

-- a loss of power leaves of the new past only what it leaves of the old one, and what is seen is the same
pub record Narrows (old new : Past) : Type 0 where
  pub names : names_after new.base new.effects ≡ names_after old.base old.effects
  pub bytes : bytes_after new.base new.effects ≡ bytes_after old.base old.effects
  pub may_names : (names : Names) → MayNames new.base new.effects names → MayNames old.base old.effects names
  pub may_bytes : (file : File) (bytes : List ℕ) → MayBytes new.base new.effects file bytes → MayBytes old.base old.effects file bytes
  pub unfailed : IsUnfailed new → IsUnfailed old
