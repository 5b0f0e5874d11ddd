-- What is known of a file of a device that a log is written to (own): which of its bytes are sure to be kept, and what was done beside.
use Rattle.std.specs.Prelude.{◌≡◌, ℕ, suc, Bool, true, false, cond, nat_eq, List, [], ◌∷◌, ◌++◌, Option, Some, None, length}
use Rattle.std.specs.FinMap.{get}
use Rattle.devices.specs.Device.{Files, Effect, Past, Wrote, Added, Moved, Removed, SyncedFile, SyncedFolder, FailedFile, FailedFolder, bytes_or_none}
use Rattle.devices.specs.Crash.{File, bytes_after, has_failed, is_file, names_after, MayBytes}

-- the bytes of a file when it was last synced: none if it was made since, and those of the base if it was there
abbrev pub synced_bytes : Files → List Effect → File → List ℕ
synced_bytes base [] file = bytes_or_none (get base file.0)
synced_bytes base (Wrote path bytes ∷ past) file = cond (nat_eq file.1 (suc (length past))) [] (synced_bytes base past file)
synced_bytes base (Added path bytes ∷ past) file = cond (nat_eq file.1 (suc (length past))) [] (synced_bytes base past file)
synced_bytes base (Moved from to ∷ past) file = synced_bytes base past file
synced_bytes base (Removed path ∷ past) file = synced_bytes base past file
synced_bytes base (SyncedFile path ∷ past) file = cond (is_file (names_after base past path) file) (bytes_after base past file) (synced_bytes base past file)
synced_bytes base (SyncedFolder folder ∷ past) file = synced_bytes base past file
synced_bytes base (FailedFile path ∷ past) file = synced_bytes base past file
synced_bytes base (FailedFolder folder ∷ past) file = synced_bytes base past file

-- they are known if no sync of the file has failed
abbrev pub synced_of : Files → List Effect → Option File → Option (List ℕ)
synced_of base past (Some file) = cond (has_failed base past file) None (Some (synced_bytes base past file))
synced_of base past None = Some []

-- the bytes that the file at a path of an honest device is sure to keep, if they are known. There is none where it does not exist
abbrev pub synced_known : Bool → Past → List ℕ → Option (List ℕ)
synced_known true past path = synced_of past.base past.effects (names_after past.base past.effects path)
synced_known false past path = None

-- what an append to a file leaves as it is: the path, whether the device is honest, and what else was done to it
pub record BesideFile : Type 0 where
  pub path : List ℕ
  pub is_honest : Bool
  pub past : Option Past

-- what a loss of power may leave in the file begins with them
abbrev pub SyncedStays : Type 0
SyncedStays = (base : Files) (past : List Effect) (file : File) (x : List ℕ) → has_failed base past file ≡ false → MayBytes base past file x → (more : List ℕ) × (x ≡ synced_bytes base past file ++ more)
