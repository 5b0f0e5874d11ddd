-- The state of a host whose tenants are changed while it is stopped (own).
use Rattle.std.specs.Prelude.{ℕ, List, filter, if◌then◌else◌, map, not, Bool}
use Rattle.std.specs.FinMap.{entries, from_sorted}
use Rattle.std.specs.Ordering.{eq_by_cmp}
use Rattle.git_name.specs.Name.{name_cmp}
use Rattle.fork_model.specs.View.{View}
use Rattle.fork_model.specs.World.{World}
use Rattle.state_text.specs.States.{States, TenantState}

-- whether two tenant names are the same
abbrev pub is_name : List ℕ → List ℕ → Bool
is_name = eq_by_cmp name_cmp

-- a tenant's state, with this limit if the tenant has this name
abbrev pub limited : List ℕ → ℕ → TenantState → TenantState
limited name limit tenant = if is_name name tenant.name then record tenant { limit = limit } else tenant

-- the same for all states
abbrev pub states_limited : List ℕ → ℕ → States → States
states_limited name limit states = map (limited name limit) states

-- the states of all other tenants
abbrev pub states_without : List ℕ → States → States
states_without name states = filter (λ tenant. not (is_name name tenant.name)) states

-- a tenant's view, with this limit if the tenant has this name
abbrev pub view_limited : List ℕ → ℕ → List ℕ × View → List ℕ × View
view_limited name limit (tenant, view) = (tenant, if is_name name tenant then record view { limit = limit } else view)

-- the world in which that tenant has this limit, and everything else is unchanged
unfoldable pub with_limit : World → List ℕ → ℕ → World
with_limit world name limit = from_sorted (map (view_limited name limit) (entries world))
