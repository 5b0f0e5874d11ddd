-- States with one thing appended, or removed.
use Rattle.std.proofs.Common.{◌≡◌, ℕ, ◌<◌, ◌≤◌, List, [], ◌∷◌, ◌++◌, sym, ap, subst, ◌∙◌, length, map, arith}
use Rattle.std.specs.List.{AllByRecursion}
use Rattle.git_name.specs.Name.{IsName}
use Rattle.std.specs.FinMap.{entries, values}
use Rattle.git_reftx.specs.Repository as git
use Rattle.git_reftx.specs.Transaction.{References}
use Rattle.fork_request.specs.Names.{IsTenantName}
use Rattle.fork_request.specs.declared.tenant_limit.TheConstants.{MAX_LIMIT}
use Rattle.fork_model.specs.declared.limits.TheConstants.{MAX_REPOSITORIES, MAX_TENANTS}
use Rattle.fork_model.specs.declared.limits.TheConstants.{MAX_OFFERS}
use Rattle.state_text.specs.Adding.{AreBefore, fresh, with_offer, with_repository, with_seen}
use Rattle.state_text.specs.Offer.{Offer, words_of_offer}
use Rattle.state_text.specs.States.{Ascend, IsOffer, IsNamedRepository, IsStates, IsTenantState, States, TenantState}
use Rattle.state_text.proofs.BehindLemmas.{ascend_behind, ascend_front, ascend_none, before_last, each_behind, each_front, each_last, length_behind, map_behind}

pub no_states : IsStates []
no_states = record { few = omega arith; ordered = ascend_none; each = tt }

pub fresh_right : (name : List ℕ) (limit : ℕ) → IsTenantName name → limit ≤ MAX_LIMIT → IsTenantState (fresh name limit)
fresh_right name limit named within = record {
  named = named;
  limit = within;
  few = omega arith;
  ordered = ascend_none;
  repositories = tt;
  seen_ordered = ascend_none;
  seen = tt;
  few_offers = omega arith;
  offers_ordered = ascend_none;
  offers = tt;
}

-- a tenant with one more repository
pub repository_more : (tenant : TenantState) (name : List ℕ) (repository : git.Repository) → IsTenantState tenant → IsNamedRepository (name, repository) → AreBefore (map (λ r. r.0) tenant.repositories) name
    → length tenant.repositories < MAX_REPOSITORIES → IsTenantState (with_repository tenant name repository)
repository_more tenant name repository right new before room = record {
  named = right.named;
  limit = right.limit;
  few = (let long = length_behind tenant.repositories (name, repository) in omega (arith, long));
  ordered = subst Ascend (sym (map_behind (λ r. r.0) tenant.repositories (name, repository))) (ascend_behind (map (λ r. r.0) tenant.repositories) name right.ordered before);
  repositories = each_behind IsNamedRepository tenant.repositories (name, repository) right.repositories new;
  seen_ordered = right.seen_ordered;
  seen = right.seen;
  few_offers = right.few_offers;
  offers_ordered = right.offers_ordered;
  offers = right.offers;
}

-- a tenant that sees one more object
pub seen_more : (tenant : TenantState) (name : List ℕ) → IsTenantState tenant → IsName name → AreBefore tenant.seen name → IsTenantState (with_seen tenant name)
seen_more tenant name right named before = record {
  named = right.named;
  limit = right.limit;
  few = right.few;
  ordered = right.ordered;
  repositories = right.repositories;
  seen_ordered = ascend_behind tenant.seen name right.seen_ordered before;
  seen = each_behind IsName tenant.seen name right.seen named;
  few_offers = right.few_offers;
  offers_ordered = right.offers_ordered;
  offers = right.offers;
}

-- a tenant with one more offer
pub offer_more : (tenant : TenantState) (offer : Offer) → IsTenantState tenant → IsOffer tenant.name offer → AreBefore (map words_of_offer tenant.offers) (words_of_offer offer) → length tenant.offers < MAX_OFFERS → IsTenantState (with_offer tenant offer)
offer_more tenant offer right new before room = record {
  named = right.named;
  limit = right.limit;
  few = right.few;
  ordered = right.ordered;
  repositories = right.repositories;
  seen_ordered = right.seen_ordered;
  seen = right.seen;
  few_offers = (let long = length_behind tenant.offers offer in omega (arith, long));
  offers_ordered = subst Ascend (sym (map_behind words_of_offer tenant.offers offer)) (ascend_behind (map words_of_offer tenant.offers) (words_of_offer offer) right.offers_ordered before);
  offers = each_behind (IsOffer tenant.name) tenant.offers offer right.offers new;
}

-- states with one more tenant
pub tenant_more : (states : States) (tenant : TenantState) → IsStates states → IsTenantState tenant → AreBefore (map (λ t. t.name) states) tenant.name → length states < MAX_TENANTS → IsStates (states ++ tenant ∷ [])
tenant_more states tenant right new before room = record {
  few = (let long = length_behind states tenant in omega (arith, long));
  ordered = subst Ascend (sym (map_behind (λ t. t.name) states tenant)) (ascend_behind (map (λ t. t.name) states) tenant.name right.ordered before);
  each = each_behind IsTenantState states tenant right.each new;
}

-- the last one is right
pub last_right : (states : States) (tenant : TenantState) → IsStates (states ++ tenant ∷ []) → IsTenantState tenant
last_right states tenant right = each_last IsTenantState states tenant right.each

-- the others come before it
pub tenants_before : (states : States) (tenant : TenantState) → IsStates (states ++ tenant ∷ []) → AreBefore (map (λ t. t.name) states) tenant.name
tenants_before states tenant right = before_last (map (λ t. t.name) states) tenant.name (subst Ascend (map_behind (λ t. t.name) states tenant) right.ordered)

-- states without the last one
pub tenant_less : (states : States) (tenant : TenantState) → IsStates (states ++ tenant ∷ []) → IsStates states
tenant_less states tenant right = record {
  few = (let long = length_behind states tenant in let few = right.few in omega (arith, long, few));
  ordered = ascend_front (map (λ t. t.name) states) tenant.name (subst Ascend (map_behind (λ t. t.name) states tenant) right.ordered);
  each = each_front IsTenantState states tenant right.each;
}

-- states whose last tenant changes and keeps its name
pub tenant_changed : (states : States) (old new : TenantState) → IsStates (states ++ old ∷ []) → IsTenantState new → old.name ≡ new.name → IsStates (states ++ new ∷ [])
tenant_changed states old new right is same =
    let room : length states < MAX_TENANTS = (let long = length_behind states old in let few = right.few in omega (arith, long, few)) in
    tenant_more states new (tenant_less states old right) is (subst (AreBefore (map (λ t. t.name) states)) same (tenants_before states old right)) room

-- the values of references with one more
pub targets_more : (old new : References) (name target : List ℕ) → entries new ≡ entries old ++ (name, target) ∷ [] → AllByRecursion IsName (values old) → IsName target → AllByRecursion IsName (values new)
targets_more old new name target is each named =
    subst (AllByRecursion IsName) (sym (ap (map (λ e. e.1)) is ∙ map_behind (λ e. e.1) (entries old) (name, target))) (each_behind IsName (values old) target each named)
