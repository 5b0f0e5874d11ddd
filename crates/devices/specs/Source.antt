-- What is known of a reader of a file of a device (own).
use Rattle.std.specs.Prelude.{◌≡◌, ◌≤◌, ◌<◌, ℕ, Bool, true, false, List, [], Option, Some, None, drop, length, take}
use Rattle.std.specs.FinMap.{get}
use Rattle.devices.specs.Device.{Past, bytes_or_none, files_of}

-- the bytes of a file of an honest device behind so many: none if it does not exist. Nothing is known of a device that is not honest
abbrev pub bytes_behind : Bool → Past → List ℕ → ℕ → Option (List ℕ)
bytes_behind true past path at = Some (drop at (bytes_or_none (get (files_of past) path)))
bytes_behind false past path at = None

-- these are the next bytes behind so many, at most so many, and none only at the end
pub record IsNextOf (all : List ℕ) (at most : ℕ) (bytes : List ℕ) : Type 0 where
  pub bound : length bytes ≤ most
  pub front : bytes ≡ take (length bytes) (drop at all)
  pub ends : length bytes ≡ 0 → 0 < most → drop at all ≡ []
