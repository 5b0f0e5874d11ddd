-- When a tenant is not added, and what it sees at first.
use Rattle.std.specs.Prelude.{ℕ, List, Option, None, Some, nat_le, nat_lt, if◌then◌else◌}
use Rattle.fork_request.specs.declared.tenant_limit.TheConstants.{MAX_LIMIT}
use Rattle.fork_model.specs.declared.limits.TheConstants.{MAX_TENANTS}
use Rattle.std.specs.FinMap.{contains_key, len, empty}
use Rattle.fork_model.specs.View.{View}
use Rattle.fork_model.specs.World.{World}
use Rattle.fork_host.specs.Shown.{Account}
use Rattle.fork_host.specs.declared.add_error.AddError.{AddError}
use Rattle.fork_host.specs.declared.add_error.AddError.TheVariants.{There, TooMany, Limit}

-- the first reason against it
abbrev pub refusal_to_add : World → List ℕ → ℕ → Option AddError
refusal_to_add world name limit =
    if contains_key world name then Some There
    else if nat_le MAX_TENANTS (len world) then Some TooMany
    else if nat_lt MAX_LIMIT limit then Some Limit
    else None

-- an account without repositories and offers, under this limit
abbrev pub new_account : ℕ → Account
new_account limit = record { repositories = empty; made = empty; upload = None; limit = limit }

-- a view that has nothing, under this limit
abbrev pub new_view : ℕ → View
new_view limit = record { repositories = empty; made = empty; objects = empty; upload = None; limit = limit }
