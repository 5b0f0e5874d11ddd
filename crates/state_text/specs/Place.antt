-- Where in a tenant's lines a text is (own): within a repository, or within an offer.
use Rattle.std.specs.Prelude.{◌≡◌, ℕ, List, [], ⊤}
use Rattle.git_reftx.specs.Repository.{Repository}
use Rattle.state_text.specs.declared.place.Place.{Place}
use Rattle.state_text.specs.declared.place.Place.TheVariants.{Own, Offered}
use Rattle.state_text.specs.Adding.{with_offer, with_repository}
use Rattle.state_text.specs.States.{TenantState}
use Rattle.state_text.specs.Text.{offer_line, repository_line}

-- the name of the repository, by which the names in it are expanded
abbrev pub place_name : Place → List ℕ
place_name (Own name) = name
place_name (Offered receiver name) = name

-- the line by which it begins
abbrev pub first_line : Place → List ℕ
first_line (Own name) = repository_line name
first_line (Offered receiver name) = offer_line receiver name

-- the tenant with this appended
abbrev pub with_at : TenantState → Place → Repository → TenantState
with_at tenant (Own name) repository = with_repository tenant name repository
with_at tenant (Offered receiver name) repository = with_offer tenant (record { receiver = receiver; name = name; repository = repository })

-- no line of the tenant comes after it: repositories come first, then what is seen, then offers
abbrev pub IsLast : TenantState → Place → Type 0
IsLast tenant (Own name) = (tenant.seen ≡ []) × (tenant.offers ≡ [])
IsLast tenant (Offered receiver name) = ⊤
