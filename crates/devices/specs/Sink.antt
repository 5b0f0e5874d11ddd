-- What is known of a sink into a file of a device (own): the bytes of the file, and what was done to the device beside appends to it.
use Rattle.std.specs.Prelude.{ℕ, Bool, true, false, cond, nat_eq, List, [], ◌∷◌, Option, Some, None}
use Rattle.std.specs.FinMap.{get}
use Rattle.std.specs.Cmp.Lexicographic.{pointwise}
use Rattle.devices.specs.Device.{Effect, Past, Wrote, Added, Moved, Removed, SyncedFile, SyncedFolder, FailedFile, FailedFolder, bytes_or_none, files_of}

-- the effect is an append to this path
abbrev pub is_append : List ℕ → Effect → Bool
is_append path (Wrote other bytes) = false
is_append path (Added other bytes) = pointwise nat_eq other path
is_append path (Moved from to) = false
is_append path (Removed other) = false
is_append path (SyncedFile other) = false
is_append path (SyncedFolder folder) = false
is_append path (FailedFile other) = false
is_append path (FailedFolder folder) = false

-- the effects without the newest ones, as long as these are appends to this path
abbrev pub before_appends : List ℕ → List Effect → List Effect
before_appends path [] = []
before_appends path (effect ∷ past) = cond (is_append path effect) (before_appends path past) (effect ∷ past)

-- the bytes of a file of an honest device: none if it does not exist. Nothing is known of a device that is not honest
abbrev pub bytes_known : Bool → Past → List ℕ → Option (List ℕ)
bytes_known true past path = Some (bytes_or_none (get (files_of past) path))
bytes_known false past path = None

-- what was done to an honest device before the newest appends to a file
abbrev pub past_beside : Bool → Past → List ℕ → Option Past
past_beside true past path = Some (record past { effects = before_appends path past.effects })
past_beside false past path = None

-- what such a sink leaves as it is: which device it writes to, at which path, whether it is honest, and what else was done
pub record Beside : Type 0 where
  pub device : ℕ
  pub path : List ℕ
  pub is_honest : Bool
  pub past : Option Past
