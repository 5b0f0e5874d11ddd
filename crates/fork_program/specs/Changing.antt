-- What `add-tenant`, `set-limit` and `remove-tenant` do (own): the host that a folder keeps is saved with its tenants changed.
use Rattle.std.specs.Prelude.{◌≡◌, ◌⊎◌, ◌<◌, ◌≤◌, ℕ, true, false, List, Option, Some, None}
use Rattle.std.specs.Option.{option_and_then}
use Rattle.std.specs.FinMap.{contains_key, get, remove}
use Rattle.fork_command.specs.declared.grant.Grant.{Grant}
use Rattle.fork_host.specs.Adding.{refusal_to_add}
use Rattle.fork_host.specs.Shown.{HostState, Trusted, world_of}
use Rattle.fork_model.specs.View.{View}
use Rattle.fork_model.specs.World.{World}
use Rattle.fork_reach.specs.Objects.{use_of}
use Rattle.fork_state.specs.Changed.{with_limit}
use Rattle.git_name.specs.Number.{number_in}
use Rattle.git_name.specs.Text.{split_once}
use Rattle.state_text.specs.Kept.{states_of}
use Rattle.state_text.specs.Text.{IsStateText2}
use Rattle.fork_program.specs.Given.{IsUnadded, with_grant}
use Rattle.fork_program.specs.Keeping.{IsUnrenewed}
use Rattle.fork_program.specs.declared.fault.Fault.{Fault}
use Rattle.fork_program.specs.declared.fault.Fault.TheVariants.{NotThere, BelowUse}

-- the number before the first SP of a text
abbrev pub number_told : List ℕ → Option ℕ
number_told text = option_and_then (λ parts. number_in parts.0) (split_once 32 text)

-- this is the text of a world
abbrev pub IsTextOfWorld : World → List ℕ → Type 0
IsTextOfWorld world text = IsStateText2 (states_of world) text

-- a host to which this tenant can be added, which then sees nothing, and the text of its states with it; that this was saved is
-- in no clause
pub record IsTenantAdded (grant : Grant) : Type 0 where
  pub host : HostState
  pub free : refusal_to_add (world_of host) grant.tenant grant.limit ≡ None
  pub text : List ℕ
  pub saved : IsTextOfWorld (with_grant (world_of host) grant) text

-- why the tenant was not added
abbrev pub IsNotAdded : Grant → Fault → Type 0
IsNotAdded grant fault = IsUnrenewed fault ⊎ ((host : HostState) × IsUnadded (world_of host) grant fault)

-- what this tenant's objects use
abbrev pub IsUseOf : HostState → List ℕ → ℕ → Type 0
IsUseOf host tenant used = Trusted host → (view : View) → get (world_of host) tenant ≡ Some view → used ≡ use_of view.objects

-- a host in which this tenant exists, whose objects use no more than this limit, and the text of its states with it; that this
-- was saved is in no clause
pub record IsLimitSet (grant : Grant) : Type 0 where
  pub host : HostState
  pub there : contains_key (world_of host) grant.tenant ≡ true
  pub used : ℕ
  pub told : IsUseOf host grant.tenant used
  pub fits : used ≤ grant.limit
  pub text : List ℕ
  pub saved : IsTextOfWorld (with_limit (world_of host) grant.tenant grant.limit) text

-- why the limit is refused: the tenant does not exist, or uses more
abbrev pub IsLimitRefused : HostState → Grant → Fault → Type 0
IsLimitRefused host grant (NotThere tenant) = (tenant ≡ grant.tenant) × (contains_key (world_of host) grant.tenant ≡ false)
IsLimitRefused host grant (BelowUse tenant used) = (tenant ≡ grant.tenant) × IsUseOf host grant.tenant used × (grant.limit < used)
IsLimitRefused host grant _ = ⊥

-- why the limit was not set
abbrev pub IsLimitUnset : Grant → Fault → Type 0
IsLimitUnset grant fault = IsUnrenewed fault ⊎ ((host : HostState) × IsLimitRefused host grant fault)

-- a host in which this tenant exists, and the text of its states without it; that this was saved is in no clause
pub record IsTenantRemoved (tenant : List ℕ) : Type 0 where
  pub host : HostState
  pub there : contains_key (world_of host) tenant ≡ true
  pub text : List ℕ
  pub saved : IsTextOfWorld (remove (world_of host) tenant) text

-- the tenant does not exist
abbrev pub IsAbsent : HostState → List ℕ → Fault → Type 0
IsAbsent host tenant (NotThere name) = (name ≡ tenant) × (contains_key (world_of host) tenant ≡ false)
IsAbsent host tenant _ = ⊥

-- why the tenant was not removed
abbrev pub IsNotRemoved : List ℕ → Fault → Type 0
IsNotRemoved tenant fault = IsUnrenewed fault ⊎ ((host : HostState) × IsAbsent host tenant fault)
