-- What a cache of objects has (own).
use Rattle.std.specs.Prelude.{◌≡◌, ◌≤◌, ℕ, Bool, true, IsTrue, List, Option, None, Some, Contains, length}
use Rattle.std.specs.Coded.{Coded, coded×, coded_list, coded_ℕ}
use Rattle.std.specs.FinMap.{get}
use Rattle.git_name.specs.Object.{Object, object_name, typed_bytes}
use Rattle.git_name.specs.contracts.sealed.Sealed as sealed
use Rattle.loose_store.specs.Files.{Files}
use Rattle.loose_store.specs.Stored.{Whole}

-- objects by name, the most recently used first
abbrev pub Cached : Type 0
Cached = List (List ℕ × Object)

-- they have a code, so that they can be a model's value
abbrev pub cached_code : Coded Cached
cached_code = coded_list (coded× (coded_list coded_ℕ) sealed.the_row.coded)

-- each object is under its own name, and has at most 65,536 bytes
abbrev pub AreFit : Cached → Type 0
AreFit entries = (name : List ℕ) (object : Object) → Contains entries (name, object) → (object_name object ≡ name) × (length object.bytes ≤ 65536)

-- each object has its whole file in the store
abbrev pub AreWhole : Cached → Files → Type 0
AreWhole entries files = (name : List ℕ) (object : Object) → Contains entries (name, object) → Whole files name object

-- each file is the whole file of some object
abbrev pub HasWholeFiles : Files → Type 0
HasWholeFiles files = (name bytes : List ℕ) → get files name ≡ Some bytes → (object : Object) × Whole files name object

-- if a store is sure, it is honest, and each of its files is whole
abbrev pub IsSure : Bool → Bool → Files → Type 0
IsSure sure honest files = sure ≡ true → IsTrue honest × HasWholeFiles files

-- the file is that of some object with this name
abbrev pub IsFileOf : List ℕ → List ℕ → Type 0
IsFileOf file name = (object : Object) × (file ≡ typed_bytes object) × (object_name object ≡ name)

-- an object with this name is found, and this is its file
abbrev pub OpensFile : List ℕ → List ℕ → Option Object → Type 0
OpensFile file name None = ⊥
OpensFile file name (Some object) = (file ≡ typed_bytes object) × (object_name object ≡ name)
