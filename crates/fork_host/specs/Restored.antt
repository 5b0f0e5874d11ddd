-- What a host is restored to, and why it is not: states, checked against what is on an honest store.
use Rattle.std.specs.Prelude.{◌≡◌, ◌⊎◌, ℕ, ◌≤◌, ◌<◌, ◌++◌, ◌∷◌, Bool, None, Some, ◌&&◌, ◌||◌, not, is_none, List, Option, Contains, map, ⊤}
use Rattle.std.specs.List.{AllByRecursion, find, flat_map}
use Rattle.std.specs.FinMap.{entries, get}
use Rattle.git_name.specs.Object.{Object}
use Rattle.git_name.specs.Same.{is_one_of}
use Rattle.git_reftx.specs.Known.{Kinds}
use Rattle.git_reftx.specs.Repository.{Repository}
use Rattle.git_reftx.specs.Transaction.{is_branch, is_commit}
use Rattle.loose_store.specs.Files.{Files}
use Rattle.loose_store.specs.Stored.{Whole}
use Rattle.fork_reach.specs.Objects.{use_of}
use Rattle.fork_reach.specs.Source.{Objects, kind_in}
use Rattle.fork_sound.specs.Sound.{is_bad}
use Rattle.fork_ledger.specs.Store.{IsDamaged}
use Rattle.fork_model.specs.Offer.{Offer as Made, Pair}
use Rattle.fork_model.specs.Sound.{IsReach}
use Rattle.fork_model.specs.View.{View}
use Rattle.fork_model.specs.World.{World}
use Rattle.state_text.specs.Kept.{states_of}
use Rattle.state_text.specs.Offer.{Offer}
use Rattle.state_text.specs.States.{States, TenantState}
use Rattle.fork_host.specs.declared.restore_error.RestoreError.{RestoreError}
use Rattle.fork_host.specs.declared.restore_error.RestoreError.TheVariants.{Lost, Damaged, Unsound, OverLimit, Store, Memory}

-- the repositories of a tenant, and then those of its offers
abbrev pub repositories_in : TenantState → List Repository
repositories_in tenant = map (λ row. row.1) tenant.repositories ++ map (λ (offer : Offer). offer.repository) tenant.offers

-- the references of a repository, and the target of one
abbrev pub references_in : Repository → List (List ℕ × List ℕ)
references_in repository = entries repository.references

abbrev pub target_of : List ℕ × List ℕ → List ℕ
target_of reference = reference.1

-- the target is not known, or is not a commit although the reference is a branch
abbrev pub is_bad_target : Kinds → List ℕ × List ℕ → Bool
is_bad_target kinds (reference, target) = is_none (kinds target) || (is_branch reference && not (is_commit (kinds target)))

-- the first of these names whose object does not exist, is not in its grammar, or has a link that is unresolved among them
abbrev pub first_bad : List (List ℕ) → Objects → Option (List ℕ)
first_bad names objects = find (is_bad objects (is_one_of names)) names

-- the first reference of these repositories whose target does not exist, or is not a commit although the reference is a branch
abbrev pub first_astray : List Repository → Objects → Option (List ℕ × List ℕ)
first_astray repositories objects = find (is_bad_target (kind_in objects)) (flat_map references_in repositories)

-- these are the objects of these names that are whole on the store
pub record AreOnStore (files : Files) (names : List (List ℕ)) (objects : Objects) : Type 0 where
  pub among : (name : List ℕ) (object : Object) → get objects name ≡ Some object → Contains names name
  pub whole : (name : List ℕ) (object : Object) → get objects name ≡ Some object → Whole files name object
  pub all : (name : List ℕ) (object : Object) → Contains names name → Whole files name object → get objects name ≡ Some object

-- this holds of the objects of these names that are whole on the store
pub record OnStore (files : Files) (names : List (List ℕ)) (Is : Objects → Type 0) : Type 0 where
  pub objects : Objects
  pub stored : AreOnStore files names objects
  pub is : Is objects

-- the store has the objects that a tenant sees, all sound
abbrev pub HasObjects : Files → TenantState → Type 0
HasObjects files tenant = OnStore files tenant.seen (λ objects. first_bad tenant.seen objects ≡ None)

-- the tenant sees what its references and those of its offers point at; branches point at commits
abbrev pub HasTargets : Files → TenantState → Type 0
HasTargets files tenant = OnStore files tenant.seen (λ objects. first_astray (repositories_in tenant) objects ≡ None)

-- what it sees uses no more than its limit
abbrev pub KeepsLimit : Files → TenantState → Type 0
KeepsLimit files tenant = OnStore files tenant.seen (λ objects. use_of objects ≤ tenant.limit)

-- the tenant is one of these, and this holds for each before it
pub record AllBefore (Is : TenantState → Type 0) (states : States) (tenant : TenantState) : Type 0 where
  pub front : States
  pub back : States
  pub parts : states ≡ front ++ tenant ∷ back
  pub before : AllByRecursion Is front

-- how a bad object is reported: no file, a file that is not whole, or an object that breaks a rule; unless it cannot be read again
abbrev pub TellsBad : Files → List ℕ → RestoreError → Type 0
TellsBad files name (Lost told) = (told ≡ name) × (get files name ≡ None)
TellsBad files name (Damaged told) = (told ≡ name) × IsDamaged files name
TellsBad files name (Unsound told) = (told ≡ name) × (object : Object) × Whole files name object
TellsBad files name (OverLimit tenant) = ⊥
TellsBad files name Store = ⊤
TellsBad files name Memory = ⊤

-- memory ran out, or the store failed
abbrev pub IsStoreOrMemory : RestoreError → Type 0
IsStoreOrMemory error = (error ≡ Store) ⊎ (error ≡ Memory)

-- why states are refused: first the objects of all tenants, tenant by tenant and name by name; then the targets of all references,
-- in each tenant those of repositories before those of offers; then the limits; and lack of memory or a failing store at any time
pub data AreRefused (files : Files) (states : States) : RestoreError → Type 0 where
  ByObject : (tenant : TenantState) (name : List ℕ) (error : RestoreError) → AllBefore (HasObjects files) states tenant
      → OnStore files tenant.seen (λ objects. first_bad tenant.seen objects ≡ Some name) → TellsBad files name error → AreRefused files states error
  ByTarget : (tenant : TenantState) (reference target : List ℕ) → AllByRecursion (HasObjects files) states → AllBefore (HasTargets files) states tenant
      → OnStore files tenant.seen (λ objects. first_astray (repositories_in tenant) objects ≡ Some (reference, target)) → AreRefused files states (Unsound target)
  ByLimit : (tenant : TenantState) → AllByRecursion (HasObjects files) states → AllByRecursion (HasTargets files) states → AllBefore (KeepsLimit files) states tenant
      → OnStore files tenant.seen (λ objects. tenant.limit < use_of objects) → AreRefused files states (OverLimit tenant.name)
  WantsMemory : AreRefused files states Memory
  WantsStore : AreRefused files states Store

-- the store has every object that a tenant of the world sees
abbrev pub HasWorld : Files → World → Type 0
HasWorld files world = (tenant : List ℕ) (view : View) (name : List ℕ) (object : Object) → get world tenant ≡ Some view → get view.objects name ≡ Some object → Whole files name object

-- every offer of a world holds what its references reach among what its giver sees
abbrev pub HoldsReach : World → Type 0
HoldsReach world = (tenant : List ℕ) (view : View) (pair : Pair) (offer : Made) → get world tenant ≡ Some view → get view.made pair ≡ Some offer → IsReach view.objects offer

-- the world is the one that these states describe: no upload is open, each object is the one on the store, and offers hold what
-- they reach
pub record IsShownAgain (files : Files) (told : States) (world : World) : Type 0 where
  pub states : states_of world ≡ told
  pub quiet : (tenant : List ℕ) (view : View) → get world tenant ≡ Some view → view.upload ≡ None
  pub whole : HasWorld files world
  pub reach : HoldsReach world
