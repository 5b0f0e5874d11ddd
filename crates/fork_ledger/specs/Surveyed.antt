-- What a survey of a store finds (own).
use Rattle.std.specs.Prelude.{◌≡◌, IsTrue, ℕ, Bool, List, Option, None, Some, length}
use Rattle.std.specs.FinMap.{empty, keys}
use Rattle.git_name.specs.Object.{Object, object_name}
use Rattle.git_name.specs.declared.kind.Kind.{Kind}
use Rattle.loose_store.specs.Files.{Files}
use Rattle.loose_store.specs.Stored.{Whole}
use Rattle.object_table.specs.Holders.{HoldingsState}
use Rattle.object_table.specs.Rows.{places_of}
use Rattle.read_cache.specs.Stores.{StoreState}
use Rattle.fork_ledger.specs.Led.{AreLed}

-- the object with a whole file under this name, or none if there is no such object
abbrev pub IsSurveyed : Files → List ℕ → Option Object → Type 0
IsSurveyed files name (Some object) = Whole files name object
IsSurveyed files name None = (object : Object) → Whole files name object → ⊥

-- nobody holds anything; over an honest store the catalogue has the files' names, ascending, and known links are true
pub record IsCatalogued (store : StoreState) (holdings : HoldingsState) : Type 0 where
  pub ledgers : holdings.ledgers ≡ empty
  pub place : (places_of holdings.catalogue).place ≡ 0
  pub names : IsTrue store.honest → (places_of holdings.catalogue).names ≡ keys store.contents
  pub led : IsTrue store.honest → AreLed holdings.links store.contents

-- an object of this name has this kind and size, and an honest store has its whole file
pub record IsKnown (honest : Bool) (files : Files) (name : List ℕ) (kind : Kind) (size : ℕ) : Type 0 where
  pub object : Object
  pub named : object_name object ≡ name
  pub same_kind : object.kind ≡ kind
  pub same_size : length object.bytes ≡ size
  pub whole : IsTrue honest → Whole files name object
