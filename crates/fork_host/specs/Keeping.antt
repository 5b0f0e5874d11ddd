-- Additions to what outlives the host's process of a tenant's state.
use Rattle.std.specs.Prelude.{ℕ, List, ◌++◌}
use Rattle.git_reftx.specs.Repository.{Repository}
use Rattle.state_text.specs.Offer.{Offer}
use Rattle.state_text.specs.States.{TenantState}

-- with these repositories added
abbrev pub with_repositories : TenantState → List (List ℕ × Repository) → TenantState
with_repositories tenant more = record tenant { repositories = tenant.repositories ++ more }

-- with these offers added
abbrev pub with_offers : TenantState → List Offer → TenantState
with_offers tenant more = record tenant { offers = tenant.offers ++ more }

-- with the names of these objects added
abbrev pub with_names : TenantState → List (List ℕ) → TenantState
with_names tenant more = record tenant { seen = tenant.seen ++ more }
