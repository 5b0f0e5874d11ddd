-- What outlives a host's process (own): for each tenant its limit, its repositories, the names of the objects that it sees, and the
-- offers that it has made.
use Rattle.std.specs.Prelude.{◌≢◌, ℕ, ◌≤◌, List, length, map, refl}
use Rattle.std.specs.Coded.{Coded, code_by, coded×, coded_ℕ, coded_list}
use Rattle.std.specs.FinMap.{values}
use Rattle.std.specs.List.{AllByRecursion}
use Rattle.std.specs.List.Sorted.{IsStrictlySortedBy}
use Rattle.git_name.specs.Name.{IsName, name_cmp}
use Rattle.git_name.specs.Text.{bytes_code}
use Rattle.git_reftx.specs.Repository.{IsBranch, Repository, repository_code}
use Rattle.git_reftx.specs.Sound.{AreSound}
use Rattle.fork_request.specs.Names.{IsRepositoryName, IsTenantName}
use Rattle.fork_request.specs.declared.tenant_limit.TheConstants.{MAX_LIMIT}
use Rattle.fork_model.specs.declared.limits.TheConstants.{MAX_REPOSITORIES, MAX_TENANTS}
use Rattle.fork_model.specs.declared.limits.TheConstants.{MAX_OFFERS}
use Rattle.state_text.specs.Offer.{Offer, offer_code, words_of_offer}

-- for one tenant; a repository follows its name
pub record TenantState : Type 0 where
  pub name : List ℕ
  pub limit : ℕ
  pub repositories : List (List ℕ × Repository)
  pub seen : List (List ℕ)
  pub offers : List Offer

-- for each tenant
abbrev pub States : Type 0
States = List TenantState

-- names that strictly ascend, bytewise
abbrev pub Ascend : List (List ℕ) → Type 0
Ascend = IsStrictlySortedBy name_cmp

-- HEAD names a branch; references with valid names, none above another, at most 4,096, each at a name of an object
pub record MayBeTold (repository : Repository) : Type 0 where
  pub branch : IsBranch repository.head
  pub references : AreSound repository.references
  pub targets : AllByRecursion IsName (values repository.references)

-- a valid name, and what a state may say about it
pub record IsNamedRepository (repository : List ℕ × Repository) : Type 0 where
  pub named : IsRepositoryName repository.0
  pub told : MayBeTold repository.1

-- to another tenant than the giver, with a valid name, and what a state may say about it
pub record IsOffer (giver : List ℕ) (offer : Offer) : Type 0 where
  pub receiver_named : IsTenantName offer.receiver
  pub to_another : offer.receiver ≢ giver
  pub named : IsRepositoryName offer.name
  pub told : MayBeTold offer.repository

-- a valid name and limit; repositories, the names of objects and offers in their order
pub record IsTenantState (tenant : TenantState) : Type 0 where
  pub named : IsTenantName tenant.name
  pub limit : tenant.limit ≤ MAX_LIMIT
  pub few : length tenant.repositories ≤ MAX_REPOSITORIES
  pub ordered : Ascend (map (λ repository. repository.0) tenant.repositories)
  pub repositories : AllByRecursion IsNamedRepository tenant.repositories
  pub seen_ordered : Ascend tenant.seen
  pub seen : AllByRecursion IsName tenant.seen
  pub few_offers : length tenant.offers ≤ MAX_OFFERS
  pub offers_ordered : Ascend (map words_of_offer tenant.offers)
  pub offers : AllByRecursion (IsOffer tenant.name) tenant.offers

-- no more tenants than a host may have, in their order
pub record IsStates (states : States) : Type 0 where
  pub few : length states ≤ MAX_TENANTS
  pub ordered : Ascend (map (λ tenant. tenant.name) states)
  pub each : AllByRecursion IsTenantState states

-- a tenant's state has a code, so that it can be a model's value
abbrev pub state_code : Coded TenantState
state_code =
    code_by (List ℕ × (ℕ × (List (List ℕ × Repository) × (List (List ℕ) × List Offer))))
    (coded× bytes_code (coded× coded_ℕ (coded× (coded_list (coded× bytes_code repository_code)) (coded× (coded_list bytes_code) (coded_list offer_code)))))
    (λ t. (t.name, (t.limit, (t.repositories, (t.seen, t.offers)))))
    (λ p. record { name = p.0; limit = p.1.0; repositories = p.1.1.0; seen = p.1.1.1.0; offers = p.1.1.1.1 }) (λ _. refl)
