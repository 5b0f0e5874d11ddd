-- One tenant's own part of the vault, and what a request may change of the vault: only this part.
use Rattle.std.specs.Prelude.{◌≡◌, ◌≢◌, ℕ, ◌≤◌, true, IsTrue, List}
use Rattle.std.specs.FinMap.{contains_key, empty}
use Rattle.fork_reach.specs.Objects.{measures_of, use_of}
use Rattle.fork_reach.specs.Source.{Objects}
use Rattle.fork_ledger.specs.Private.{Private, both_of, private_measures}
use Rattle.fork_ledger.specs.Store.{Becomes}
use Rattle.fork_ledger.specs.Tenants.{Tenants, VaultState, private_of, shape_of}

-- what a tenant sees, what it has staged, and both together
abbrev pub visible_in : VaultState → List ℕ → Objects
visible_in vault tenant = (private_of vault.tenants tenant).visible

abbrev pub staged_in : VaultState → List ℕ → Objects
staged_in vault tenant = (private_of vault.tenants tenant).staged

abbrev pub both_in : VaultState → List ℕ → Objects
both_in vault tenant = both_of (private_of vault.tenants tenant)

-- the vault has the tenant, and what it sees is within the limit
pub record IsReady (vault : VaultState) (tenant : List ℕ) (limit : ℕ) : Type 0 where
  pub there : contains_key vault.tenants tenant ≡ true
  pub within : use_of (visible_in vault tenant) ≤ limit

-- a tenant's part was used: every other tenant has what it had; over any store, at least what no store can change of it
pub record IsOwn (tenant : List ℕ) (old new : VaultState) : Type 0 where
  pub there : (other : List ℕ) → contains_key new.tenants other ≡ contains_key old.tenants other
  pub shape : (other : List ℕ) → other ≢ tenant → private_measures (private_of new.tenants other) ≡ private_measures (private_of old.tenants other)
  pub others : IsTrue old.honest → (other : List ℕ) → other ≢ tenant → private_of new.tenants other ≡ private_of old.tenants other
  pub honest : new.honest ≡ old.honest

-- what the tenant has staged is as it was; over any store, at least what no store can change of it
abbrev pub KeepsStaged : List ℕ → VaultState → VaultState → Type 0
KeepsStaged tenant old new = Becomes measures_of old.honest (staged_in old tenant) (staged_in new tenant)

-- the tenant sees what it saw; over any store, at least what no store can change of it
abbrev pub KeepsSeen : List ℕ → VaultState → VaultState → Type 0
KeepsSeen tenant old new = Becomes measures_of old.honest (visible_in old tenant) (visible_in new tenant)

-- every other tenant has what it had
pub record LeavesOthers (tenant : List ℕ) (old new : Tenants) : Type 0 where
  pub there : (other : List ℕ) → contains_key new other ≡ contains_key old other
  pub others : (other : List ℕ) → other ≢ tenant → private_of new other ≡ private_of old other

-- only a tenant's private maps changed, in this way, and the vault shows them: over an honest store the maps, and over any store
-- what no store can change of them
pub record ChangesTenant (tenant : List ℕ) (Way : Private → Private → Type 0) (old new : VaultState) : Type 0 where
  pub tenants : Tenants
  pub leaves : LeavesOthers tenant old.tenants tenants
  pub way : Way (private_of old.tenants tenant) (private_of tenants tenant)
  pub shown : Becomes shape_of new.honest tenants new.tenants
  pub honest : new.honest ≡ old.honest

-- they are the result of a function on those before
abbrev pub MadeBy : (Private → Private) → Private → Private → Type 0
MadeBy change before after = after ≡ change before

-- these objects are staged beside what the tenant sees, and it sees what it saw
pub record Stages (both : Objects) (before after : Private) : Type 0 where
  pub sees : after.visible ≡ before.visible
  pub staged : both_of after ≡ both

-- it sees these objects, and these are staged
pub record Has (seen staged : Objects) (before after : Private) : Type 0 where
  pub sees : after.visible ≡ seen
  pub stages : after.staged ≡ staged

-- it sees these, and nothing is staged
abbrev pub SeesOnly : Objects → Private → Private → Type 0
SeesOnly objects = Has objects empty
