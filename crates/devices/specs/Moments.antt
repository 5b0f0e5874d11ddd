-- What holds at each moment of what was done to a device (own). Of a write that is under way a loss of power may leave nothing
-- but what it may leave of the whole one, and of a sync that is under way what it may leave before it.
use Rattle.std.specs.Prelude.{◌≡◌, List, [], ◌∷◌, ◌++◌}
use Rattle.devices.specs.Crash.{MayLeave}
use Rattle.devices.specs.Device.{Effect, Files, Past}

-- a past, and what was done after it, the newest first
abbrev pub past_with : Past → List Effect → Past
past_with past done = record past { effects = done ++ past.effects }

-- the property holds before these effects, and after each of them
abbrev pub HoldsAtEach : (Past → Type 0) → Past → List Effect → Type 0
HoldsAtEach P past [] = P past
HoldsAtEach P past (effect ∷ done) = P (past_with past (effect ∷ done)) × HoldsAtEach P past done

-- the property holds at each moment from one past to the other
pub record Throughout (P : Past → Type 0) (old new : Past) : Type 0 where
  pub done : List Effect
  pub all : new ≡ past_with old done
  pub each : HoldsAtEach P old done

-- whatever a loss of power leaves then, it has the property
abbrev pub LeavesOnly : (Files → Type 0) → Past → Type 0
LeavesOnly P past = (left : Files) → MayLeave past.base past.effects left → P left
