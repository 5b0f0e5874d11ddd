-- Where a key is among entries.
use Rattle.std.specs.Prelude.{◌≡◌, ℕ, ◌≤◌, List, ◌++◌, length, take, drop}
use Rattle.shared_map.specs.declared.spot.Spot.{Spot}
use Rattle.shared_map.specs.Chunks.{Entries, AreBefore, AreBehind, kept}

-- the entries before the key, its own, if it has one, and those after it
pub record IsSpot (key : List ℕ) (es : Entries) (spot : Spot) : Type 0 where
  pub parts : es ≡ take spot.at es ++ (kept key spot.value ++ drop spot.past es)
  pub ordered : spot.at ≤ spot.past
  pub within : spot.past ≤ length es
  pub before : AreBefore key (take spot.at es)
  pub behind : AreBehind key (drop spot.past es)
