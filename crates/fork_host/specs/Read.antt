-- What was read of objects on the store, before tenants see them again.
use Rattle.std.specs.Prelude.{◌≡◌, ℕ, Bool, true, IsTrue, List, Option, None, Some, Contains}
use Rattle.std.specs.FinMap.{contains_key, get}
use Rattle.git_name.specs.Object.{Object, object_name}
use Rattle.loose_store.specs.Files.{Files}
use Rattle.loose_store.specs.Stored.{Whole}
use Rattle.fork_ledger.specs.Store.{Recalls}
use Rattle.fork_ledger.specs.Tenants.{Tenants}
use Rattle.fork_sound.specs.Reading.{ReadingMap, ReadingValue, object_reading}

-- an object of this name was read; over an honest store the one that is whole on it
pub record IsRead (honest : Bool) (files : Files) (name : List ℕ) (reading : ReadingValue) : Type 0 where
  pub object : Object
  pub named : object_name object ≡ name
  pub is : reading ≡ object_reading object
  pub whole : IsTrue honest → Whole files name object

-- this holds for each reading that is kept
abbrev pub EachRead : Bool → Files → ReadingMap → Type 0
EachRead honest files readings = (name : List ℕ) (reading : ReadingValue) → get readings name ≡ Some reading → IsRead honest files name reading

-- every object of these names that is whole on the store was read
abbrev pub AllRead : Files → List (List ℕ) → ReadingMap → Type 0
AllRead files names readings = (name : List ℕ) (object : Object) → Contains names name → Whole files name object → contains_key readings name ≡ true

-- the objects of these names were read, and perhaps others
pub record AreRead (honest : Bool) (files : Files) (names : List (List ℕ)) (readings : ReadingMap) : Type 0 where
  pub each : EachRead honest files readings
  pub all : IsTrue honest → AllRead files names readings

-- the objects of these names were read in addition to those read before
pub record Reads (honest : Bool) (files : Files) (names : List (List ℕ)) (old new : ReadingMap) : Type 0 where
  pub each : EachRead honest files old → EachRead honest files new
  pub grows : (name : List ℕ) → contains_key old name ≡ true → contains_key new name ≡ true
  pub all : IsTrue honest → AllRead files names new

-- for a tenant that saw it before: what was read is staged, and what was not changes nothing
abbrev pub RecallsRead : Bool → List ℕ → List ℕ → Files → Tenants → Tenants → Option ReadingValue → Type 0
RecallsRead honest tenant name files old new (Some reading) = Recalls honest tenant name files old new
RecallsRead honest tenant name files old new None = new ≡ old
