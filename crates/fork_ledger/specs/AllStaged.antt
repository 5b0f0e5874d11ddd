-- Objects staged in one call, and what they add to the store (own).
use Rattle.std.specs.Prelude.{◌≡◌, ◌≢◌, ◌⊎◌, ◌++◌, ℕ, List, [], ◌∷◌, Contains, length}
use Rattle.std.specs.List.{All}
use Rattle.git_name.specs.Object.{Object, object_name}
use Rattle.looks.specs.Places.{Places}
use Rattle.object_table.specs.Clashes.{AreAs}
use Rattle.object_table.specs.Ledgers.{AllWords}
use Rattle.loose_store.specs.Files.{Files}
use Rattle.loose_store.specs.Stored.{Whole}
use Rattle.fork_ledger.specs.Kept.{Covers, IsExact}
use Rattle.fork_ledger.specs.Private.{Private, with_staged}

-- with objects staged one after another, in order
abbrev pub with_all_staged : List Object → Private → Private
with_all_staged [] own = own
with_all_staged (object ∷ objects) own = with_all_staged objects (with_staged object own)

-- each of these objects has a whole file under its name
abbrev pub AllWhole : Files → List Object → Type 0
AllWhole files objects = All (λ object. Whole files (object_name object) object) objects

-- each file that was whole is still whole
abbrev pub StaysWhole : Files → Files → Type 0
StaysWhole old new = (name : List ℕ) (object : Object) → Whole old name object → Whole new name object

-- each ledger with the object's name has it with the object's kind and length
abbrev pub IsAsTold : AllWords → Object → Type 0
IsAsTold ledgers object = AreAs ledgers (object_name object) object.kind (length object.bytes)

-- no other objects than these came to the store
abbrev pub StoresAmong : List Object → Files → Files → Type 0
StoresAmong objects old new = (name : List ℕ) (other : Object) → Whole new name other → Whole old name other ⊎ Contains objects other

-- these objects came to the store, and their names to the catalogue
pub record Receives (objects : List Object) (old new : Files) (first last : Places) : Type 0 where
  pub whole : AllWhole new objects
  pub stands : StaysWhole old new
  pub among : StoresAmong objects old new
  pub covers : Covers old first → Covers new last
  pub exact : IsExact old first → IsExact new last

-- one of these objects meets another of its name, which was whole on the store or came earlier in the list
pub record MeetsAmong (objects : List Object) (files : Files) : Type 0 where
  pub front : List Object
  pub object : Object
  pub back : List Object
  pub order : objects ≡ front ++ object ∷ back
  pub other : Object
  pub met : Whole files (object_name object) other ⊎ Contains front other
  pub named : object_name other ≡ object_name object
  pub differ : other ≢ object
