-- The lives of a folder (own): each begins with an opening, and ends when power is lost, at any moment, also of the opening.
use Rattle.std.specs.Prelude.{◌≡◌, ℕ, false, List, [], ◌∷◌}
use Rattle.devices.specs.Crash.{MayLeave}
use Rattle.devices.specs.Device.{Effect, Files, Past}
use Rattle.folder_store.specs.Calls.{Call, CallsSparing, IsTold, Standing}
use Rattle.folder_store.specs.Lasting.{AllSafe}
use Rattle.devices.specs.Moments.{past_with}

-- a device to which nothing was done yet
abbrev pub fresh : Files → Past
fresh files = record { base = files; effects = [] }

-- a moment of what was done from one past to the other
pub record IsMoment (old now new : Past) : Type 0 where
  pub before : List Effect
  pub after : List Effect
  pub now_is : now ≡ past_with old before
  pub new_is : new ≡ past_with now after

-- a life that finds these files and leaves those: no call endangers the file of this name, and no sync fails
pub record Life (name : List ℕ) (calls : List Call) (files left : Files) : Type 0 where
  pub opened : Standing
  pub safe : AllSafe (fresh files) opened.past
  pub told : IsTold opened
  pub unswept : opened.has_swept ≡ false
  pub last : Standing
  pub called : CallsSparing name calls opened last
  pub unfailed : last.has_failed ≡ false
  pub moment : Past
  pub at : IsMoment (fresh files) moment last.past
  pub leaves : MayLeave moment.base moment.effects left

-- lives one after another
abbrev pub Lives : List ℕ → List (List Call) → Files → Files → Type 0
Lives name [] files left = left ≡ files
Lives name (calls ∷ lives) files left = (next : Files) × Life name calls files next × Lives name lives next left
