-- Which bytes of a file are sure after a few effects, computed. The newest effect comes first.
use Rattle.std.proofs.Common.{◌≡◌, ℕ, List, [], ◌∷◌, refl}
use Rattle.devices.specs.Device.{Effect, Past, Added, SyncedFile, FailedFile}
use Rattle.devices.specs.Moments.{past_with}
use Rattle.host_folder.specs.Appending.{bytes_at, sure_bytes}

abbrev path : List ℕ
path = 9 ∷ []

abbrev other : List ℕ
other = 8 ∷ []

abbrev first : Effect
first = Added path (2 ∷ [])

abbrev second : Effect
second = Added path (3 ∷ [])

module _ (begun : Past) where
  -- what a read showed after the first effect
  abbrev shown : List ℕ
  shown = bytes_at path (past_with begun (first ∷ []))

  appended : sure_bytes path (1 ∷ []) begun (first ∷ []) ≡ 1 ∷ []
  appended = refl

  synced : sure_bytes path (1 ∷ []) begun (second ∷ SyncedFile path ∷ first ∷ []) ≡ shown
  synced = refl

  other_synced : sure_bytes path (1 ∷ []) begun (SyncedFile other ∷ first ∷ []) ≡ 1 ∷ []
  other_synced = refl

  -- a sync after one that failed
  synced_late : sure_bytes path (1 ∷ []) begun (SyncedFile path ∷ FailedFile path ∷ second ∷ SyncedFile path ∷ first ∷ []) ≡ shown
  synced_late = refl

  other_failed : sure_bytes path (1 ∷ []) begun (second ∷ SyncedFile path ∷ FailedFile other ∷ first ∷ []) ≡ bytes_at path (past_with begun (FailedFile other ∷ first ∷ []))
  other_failed = refl
