-- A file that is only appended to and synced, and what a loss of power leaves of it (own).
use Rattle.std.specs.Prelude.{◌≡◌, ◌⊎◌, ◌&&◌, ℕ, Bool, true, false, not, cond, nat_eq, List, [], ◌∷◌, Some}
use Rattle.std.specs.Cmp.Lexicographic.{pointwise}
use Rattle.std.specs.FinMap.{get}
use Rattle.devices.specs.Crash.{File, Names, IsFrontFrom, MayBytes, MayNames, bytes_after, has_failed, names_after}
use Rattle.devices.specs.Device.{Effect, Past, SyncedFile, FailedFile, bytes_or_none, files_of}
use Rattle.devices.specs.Loss.{touches}
use Rattle.devices.specs.Moments.{LeavesOnly, past_with}
use Rattle.devices.specs.Parts.{IsAppend}

-- the bytes that a read shows at this path
abbrev pub bytes_at : List ℕ → Past → List ℕ
bytes_at path past = bytes_or_none (get (files_of past) path)

-- a file is sure to be at this path, and a loss of power leaves a front of its bytes that has all of these
pub record IsAppendedTo (path least : List ℕ) (past : Past) : Type 0 where
  pub file : File
  pub named : (names : Names) → MayNames past.base past.effects names → names path ≡ Some file
  pub fronts : (bytes : List ℕ) → MayBytes past.base past.effects file bytes → IsFrontFrom least (bytes_after past.base past.effects file) bytes

-- no sync of the file at this path has failed
abbrev pub IsUnfailed : List ℕ → Past → Type 0
IsUnfailed path past = (file : File) → names_after past.base past.effects path ≡ Some file → has_failed past.base past.effects file ≡ false

-- a loss of power leaves a file at this path, a front of the bytes that a read shows that has all of these
abbrev pub LeavesFront : List ℕ → List ℕ → Past → Type 0
LeavesFront path least past = LeavesOnly (λ left. (bytes : List ℕ) × (get left path ≡ Some bytes) × IsFrontFrom least (bytes_at path past) bytes) past

-- the effect appends to the file at this path, or does not change what is there
abbrev pub OnlyGrows : List ℕ → Effect → Type 0
OnlyGrows path effect = IsAppend path effect ⊎ (touches effect path ≡ false)

-- each of these effects does
abbrev pub AllOnlyGrow : List ℕ → List Effect → Type 0
AllOnlyGrow path [] = Unit {0}
AllOnlyGrow path (effect ∷ effects) = OnlyGrows path effect × AllOnlyGrow path effects

-- a sync of what is at this path failed
abbrev pub sync_has_failed : List Effect → List ℕ → Bool
sync_has_failed [] path = false
sync_has_failed (FailedFile other ∷ done) path = cond (pointwise nat_eq other path) true (sync_has_failed done path)
sync_has_failed (effect ∷ done) path = sync_has_failed done path

-- which bytes of the file at this path are sure: all that a read showed at its newest sync before which none failed, and these at first
abbrev pub sure_bytes : List ℕ → List ℕ → Past → List Effect → List ℕ
sure_bytes path least past [] = least
sure_bytes path least past (SyncedFile other ∷ done) = cond (pointwise nat_eq other path && not (sync_has_failed done path)) (bytes_at path (past_with past done)) (sure_bytes path least past done)
sure_bytes path least past (effect ∷ done) = sure_bytes path least past done
