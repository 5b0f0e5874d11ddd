-- A tenant and its last item: a repository, or an offer.
use Rattle.std.proofs.Common.{◌≡◌, ℕ, ◌<◌, List, [], ◌∷◌, ◌++◌, refl, sym, ap, subst, ◌∙◌, length, map, arith}
use Rattle.git_reftx.specs.Repository as git
use Rattle.fork_request.specs.Names.{IsRepositoryName}
use Rattle.fork_model.specs.declared.limits.TheConstants.{MAX_REPOSITORIES}
use Rattle.fork_model.specs.declared.limits.TheConstants.{MAX_OFFERS}
use Rattle.state_text.specs.declared.place.Place.{Place}
use Rattle.state_text.specs.declared.place.Place.TheVariants.{Own, Offered}
use Rattle.state_text.specs.Offer.{Offer, offer_words, words_of_offer}
use Rattle.state_text.specs.Place.{IsLast, place_name, with_at}
use Rattle.state_text.specs.States.{Ascend, IsOffer, IsNamedRepository, IsStates, IsTenantState, MayBeTold, States, TenantState}
use Rattle.state_text.proofs.BehindLemmas.{ascend_front, before_last, each_front, each_last, length_behind, map_behind, same_behind}
use Rattle.state_text.proofs.StateLemmas.{offer_more, repository_more, tenant_changed}

abbrev pub offer_at : List ℕ → List ℕ → git.Repository → Offer
offer_at receiver name repository = record { receiver = receiver; name = name; repository = repository }

pub same_name_at : (tenant : TenantState) (place : Place) (repository : git.Repository) → (with_at tenant place repository).name ≡ tenant.name
same_name_at tenant (Own name) repository = refl
same_name_at tenant (Offered receiver name) repository = refl

-- the tenant without its last item
pub place_less : (tenant : TenantState) (place : Place) (repository : git.Repository) → IsTenantState (with_at tenant place repository) → IsTenantState tenant
place_less tenant (Own name) repository right = record {
  named = right.named;
  limit = right.limit;
  few = (let long = length_behind tenant.repositories (name, repository) in let few = right.few in omega (arith, long, few));
  ordered = ascend_front (map (λ r. r.0) tenant.repositories) name (subst Ascend (map_behind (λ r. r.0) tenant.repositories (name, repository)) right.ordered);
  repositories = each_front IsNamedRepository tenant.repositories (name, repository) right.repositories;
  seen_ordered = right.seen_ordered;
  seen = right.seen;
  few_offers = right.few_offers;
  offers_ordered = right.offers_ordered;
  offers = right.offers;
}
place_less tenant (Offered receiver name) repository right = record {
  named = right.named;
  limit = right.limit;
  few = right.few;
  ordered = right.ordered;
  repositories = right.repositories;
  seen_ordered = right.seen_ordered;
  seen = right.seen;
  few_offers = (let long = length_behind tenant.offers (offer_at receiver name repository) in let few = right.few_offers in omega (arith, long, few));
  offers_ordered = ascend_front (map words_of_offer tenant.offers) (offer_words receiver name) (subst Ascend (map_behind words_of_offer tenant.offers (offer_at receiver name repository)) right.offers_ordered);
  offers = each_front (IsOffer tenant.name) tenant.offers (offer_at receiver name repository) right.offers;
}

-- what is known of the last item
pub told_at : (tenant : TenantState) (place : Place) (repository : git.Repository) → IsTenantState (with_at tenant place repository) → MayBeTold repository
told_at tenant (Own name) repository right = (each_last IsNamedRepository tenant.repositories (name, repository) right.repositories).told
told_at tenant (Offered receiver name) repository right = (each_last (IsOffer tenant.name) tenant.offers (offer_at receiver name repository) right.offers).told

pub named_at : (tenant : TenantState) (place : Place) (repository : git.Repository) → IsTenantState (with_at tenant place repository) → IsRepositoryName (place_name place)
named_at tenant (Own name) repository right = (each_last IsNamedRepository tenant.repositories (name, repository) right.repositories).named
named_at tenant (Offered receiver name) repository right = (each_last (IsOffer tenant.name) tenant.offers (offer_at receiver name repository) right.offers).named

-- what is known of an offer that comes last
pub receiver_at : (tenant : TenantState) (receiver name : List ℕ) (repository : git.Repository) → IsTenantState (with_at tenant (Offered receiver name) repository) → IsOffer tenant.name (offer_at receiver name repository)
receiver_at tenant receiver name repository right = each_last (IsOffer tenant.name) tenant.offers (offer_at receiver name repository) right.offers

-- the tenant with another repository in that place
pub place_changed : (tenant : TenantState) (place : Place) (old new : git.Repository) → IsTenantState (with_at tenant place old) → MayBeTold new → IsTenantState (with_at tenant place new)
place_changed tenant (Own name) old new right told =
    let was : IsNamedRepository (name, old) = each_last IsNamedRepository tenant.repositories (name, old) right.repositories in
    let room : length tenant.repositories < MAX_REPOSITORIES = (let long = length_behind tenant.repositories (name, old) in let few = right.few in omega (arith, long, few)) in
    repository_more tenant name new (place_less tenant (Own name) old right) (record { named = was.named; told = told })
    (before_last (map (λ r. r.0) tenant.repositories) name (subst Ascend (map_behind (λ r. r.0) tenant.repositories (name, old)) right.ordered)) room
place_changed tenant (Offered receiver name) old new right told =
    let was : IsOffer tenant.name (offer_at receiver name old) = each_last (IsOffer tenant.name) tenant.offers (offer_at receiver name old) right.offers in
    let room : length tenant.offers < MAX_OFFERS = (let long = length_behind tenant.offers (offer_at receiver name old) in let few = right.few_offers in omega (arith, long, few)) in
    offer_more tenant (offer_at receiver name new) (place_less tenant (Offered receiver name) old right)
    (record { receiver_named = was.receiver_named; to_another = was.to_another; named = was.named; told = told })
    (before_last (map words_of_offer tenant.offers) (offer_words receiver name) (subst Ascend (map_behind words_of_offer tenant.offers (offer_at receiver name old)) right.offers_ordered)) room

-- states whose last tenant has another repository in that place
pub states_changed : (before : States) (tenant : TenantState) (place : Place) (old new : git.Repository) → IsStates (before ++ with_at tenant place old ∷ []) → IsTenantState (with_at tenant place old) → MayBeTold new
    → IsStates (before ++ with_at tenant place new ∷ [])
states_changed before tenant place old new right tenant_right told =
    tenant_changed before (with_at tenant place old) (with_at tenant place new) right (place_changed tenant place old new tenant_right told) (same_name_at tenant place old ∙ sym (same_name_at tenant place new))

pub never_nothing : {A : Type 0} (xs : List A) (x : A) → xs ++ x ∷ [] ≡ [] → ⊥
never_nothing xs x is = (let long : length (xs ++ x ∷ []) ≡ 0 = ap (λ l. length l) is in let more = length_behind xs x in absurd (omega (arith, long, more)))

-- the two tenants, places and repositories are the same
pub record IsSamePlace (tenant other : TenantState) (place place_too : Place) (repository repository_too : git.Repository) : Type 0 where
  pub tenants : tenant ≡ other
  pub places : place ≡ place_too
  pub repositories : repository ≡ repository_too

pub same_place : (tenant other : TenantState) (place place_too : Place) (repository repository_too : git.Repository) → IsLast tenant place → IsLast other place_too → with_at tenant place repository ≡ with_at other place_too repository_too
    → IsSamePlace tenant other place place_too repository repository_too
same_place tenant other (Own name) (Own name_too) repository repository_too last last_too is =
    let parts = same_behind tenant.repositories other.repositories (name, repository) (name_too, repository_too) (ap (λ t. t.repositories) is) in
    record {
      tenants = λ i. record { name = (is i).name; limit = (is i).limit; repositories = parts.0 i; seen = (is i).seen; offers = (is i).offers };
      places = ap (λ r. Own r.0) parts.1;
      repositories = ap (λ r. r.1) parts.1;
    }
same_place tenant other (Offered receiver name) (Offered receiver_too name_too) repository repository_too last last_too is =
    let parts = same_behind tenant.offers other.offers (offer_at receiver name repository) (offer_at receiver_too name_too repository_too) (ap (λ t. t.offers) is) in
    record {
      tenants = λ i. record { name = (is i).name; limit = (is i).limit; repositories = (is i).repositories; seen = (is i).seen; offers = parts.0 i };
      places = λ i. Offered (parts.1 i).receiver (parts.1 i).name;
      repositories = ap (λ o. o.repository) parts.1;
    }
same_place tenant other (Own name) (Offered receiver_too name_too) repository repository_too last last_too is =
    absurd (never_nothing other.offers (offer_at receiver_too name_too repository_too) (sym (ap (λ t. t.offers) is) ∙ last.1))
same_place tenant other (Offered receiver name) (Own name_too) repository repository_too last last_too is =
    absurd (never_nothing tenant.offers (offer_at receiver name repository) (ap (λ t. t.offers) is ∙ last_too.1))
