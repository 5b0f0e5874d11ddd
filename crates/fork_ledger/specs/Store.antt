-- The store under a vault (own): which files it has for what tenants hold, and what a call and its faults leave.
use Rattle.std.specs.Prelude.{◌≡◌, ◌≢◌, ◌⊎◌, ℕ, Bool, true, List, IsTrue, Option, None, Some}
use Rattle.git_name.specs.Object.{Object, object_name}
use Rattle.git_name.specs.Count.{Rises}
use Rattle.loose_store.specs.Files.{Files}
use Rattle.loose_store.specs.Stored.{Whole}
use Rattle.fork_ledger.specs.declared.fault.VaultFault.{VaultFault}
use Rattle.fork_ledger.specs.declared.fault.VaultFault.TheVariants.{Store, Damaged, Memory, Collision}
use Rattle.std.specs.FinMap.{get}
use Rattle.fork_reach.specs.Objects.{measure_of}
use Rattle.fork_ledger.specs.Private.{Holds, is_held_by, with_staged}
use Rattle.fork_ledger.specs.Tenants.{Tenants, VaultState, at_tenant, private_of, shape_of}

-- each object that a tenant sees or has staged has a whole file
abbrev pub IsStored : Tenants → Files → Type 0
IsStored tenants files = (tenant name : List ℕ) (object : Object) → Holds (private_of tenants tenant) name object → Whole files name object

-- all tenants that hold a name hold the same object
abbrev pub HoldOne : Tenants → Type 0
HoldOne tenants = (first second name : List ℕ) (object other : Object) → Holds (private_of tenants first) name object → Holds (private_of tenants second) name other → other ≡ object

-- some tenant holds this name
abbrev pub IsHeldBySome : Tenants → List ℕ → Type 0
IsHeldBySome tenants name = (tenant : List ℕ) × (is_held_by (private_of tenants tenant) name ≡ true)

-- the vault is over a store with these contents, this honesty and this count of failures
pub record IsOver (contents : Files) (trusted : Bool) (count : ℕ) (vault : VaultState) : Type 0 where
  pub files : IsTrue trusted → vault.files ≡ contents
  pub honest : vault.honest ≡ trusted
  pub failures : vault.failures ≡ count

-- the store is not asked, and the catalogue stays
pub record LeavesStore (old new : VaultState) : Type 0 where
  pub files : new.files ≡ old.files
  pub honest : new.honest ≡ old.honest
  pub failures : new.failures ≡ old.failures
  pub durability : new.durability ≡ old.durability
  pub places : new.places ≡ old.places

-- there is a file of this name, and it is whole for no object
abbrev pub IsDamaged : Files → List ℕ → Type 0
IsDamaged files name = (file : List ℕ) × (get files name ≡ Some file) × ((object : Object) → Whole files name object → ⊥)

-- no other object than this one came to the store
abbrev pub StoresAlone : Object → Files → Files → Type 0
StoresAlone object old new = (name : List ℕ) (other : Object) → Whole new name other → Whole old name other ⊎ (other ≡ object)

-- another object of the same name has a whole file
abbrev pub Meets : Object → Files → Type 0
Meets object files = (other : Object) × Whole files (object_name object) other × (other ≢ object)

-- some tenant holds the object's name with another kind or length
abbrev pub MeetsHeld : Object → Tenants → Type 0
MeetsHeld object tenants = (tenant : List ℕ) × (other : Object) × Holds (private_of tenants tenant) (object_name object) other × (measure_of other ≢ measure_of object)

-- the new value is this one: exactly over an honest store, and over any store in what no store can change
pub record Becomes {A Shape : Type 0} (shape_in : A → Shape) (honest : Bool) (this new : A) : Type 0 where
  pub exact : IsTrue honest → new ≡ this
  pub shape : shape_in new ≡ shape_in this

-- an object of this name is staged again; over an honest store it is the one with the whole file
pub record Recalls (honest : Bool) (tenant name : List ℕ) (files : Files) (old new : Tenants) : Type 0 where
  pub object : Object
  pub named : object_name object ≡ name
  pub whole : IsTrue honest → Whole files name object
  pub becomes : Becomes shape_of honest (at_tenant old tenant (with_staged object)) new

-- failures of the store are counted, and no other faults
abbrev pub CountsFault : ℕ → ℕ → Option VaultFault → Type 0
CountsFault before now (Some Store) = Rises before now
CountsFault before now (Some Damaged) = now ≡ before
CountsFault before now (Some Memory) = now ≡ before
CountsFault before now (Some Collision) = now ≡ before
CountsFault before now None = now ≡ before

-- the store is asked: its honesty stays, its failures are counted, and an honest one has no damaged object
pub record AsksStore (old new : VaultState) (fault : Option VaultFault) : Type 0 where
  pub honest : new.honest ≡ old.honest
  pub counted : CountsFault old.failures new.failures fault
  pub undamaged : IsTrue old.honest → fault ≢ Some Damaged
