-- What a check of the store has found so far (own).
use Rattle.std.specs.Prelude.{◌≡◌, ◌<◌, ◌&&◌, Bool, true, false, IsTrue, ℕ, List, Option, None, Some, take}
use Rattle.std.specs.FinMap.{get, insert}
use Rattle.git_name.specs.Object.{Object}
use Rattle.git_name.specs.Same.{is_listed}
use Rattle.git_name.specs.Count.{greatest_count}
use Rattle.fork_request.specs.declared.harm.Harm.{Harm}
use Rattle.loose_store.specs.Files.{Files}
use Rattle.loose_store.specs.Stored.{Whole}
use Rattle.fork_ledger.specs.Harms.{HarmMap, IsHarmed}

-- the file of a name has this harm, or is whole if there is none
abbrev pub StandsAs : Files → List ℕ → Option Harm → Type 0
StandsAs files name None = (object : Object) × Whole files name object
StandsAs files name (Some harm) = IsHarmed files name harm

-- what the check found for a name: over an honest store the state of its file, over any other that of some file
pub record Shows (honest : Bool) (contents : Files) (name : List ℕ) (harm : Option Harm) : Type 0 where
  pub files : Files
  pub exact : IsTrue honest → files ≡ contents
  pub stands : StandsAs files name harm

-- whether a name is held, and is at one of the first places
abbrev pub checked_until : (List ℕ → Bool) → List (List ℕ) → ℕ → List ℕ → Bool
checked_until held names at name = is_listed (take at names) name && held name

-- with the harm of a name added, if there is one
abbrev pub with_harm : HarmMap → List ℕ → Option Harm → HarmMap
with_harm harms name None = harms
with_harm harms name (Some harm) = insert harms name harm

-- each checked name was read from the store, which returns no more files once it has failed 2^64 - 1 times
abbrev pub WasAsked : ℕ → (List ℕ → Bool) → Type 0
WasAsked failures checked = (name : List ℕ) → checked name ≡ true → failures < greatest_count

-- these are the harms of the checked names, and of no others
pub record HasChecked (honest : Bool) (contents : Files) (checked : List ℕ → Bool) (harms : HarmMap) : Type 0 where
  pub files : Files
  pub exact : IsTrue honest → files ≡ contents
  pub stands : (name : List ℕ) → checked name ≡ true → StandsAs files name (get harms name)
  pub others : (name : List ℕ) → checked name ≡ false → get harms name ≡ None
