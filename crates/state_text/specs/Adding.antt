-- What is appended to a state, and why it is not (own).
use Rattle.std.specs.Prelude.{◌≡◌, ◌≤◌, ℕ, List, [], ◌∷◌, ◌++◌, All, length, map, ⊤}
use Rattle.std.specs.declared.cmp.Ordering.TheVariants.{Less}
use Rattle.git_name.specs.Name.{name_cmp}
use Rattle.git_reftx.specs.Repository.{Repository}
use Rattle.state_text.specs.declared.fault.AddError.{AddError}
use Rattle.state_text.specs.declared.fault.AddError.TheVariants as add
use Rattle.state_text.specs.declared.fault.OfferError.{OfferError}
use Rattle.state_text.specs.declared.fault.OfferError.TheVariants as offering
use Rattle.fork_model.specs.declared.limits.TheConstants.{MAX_OFFERS}
use Rattle.state_text.specs.Offer.{Offer, words_of_offer}
use Rattle.state_text.specs.States.{TenantState}

-- a tenant that has nothing yet
abbrev pub fresh : List ℕ → ℕ → TenantState
fresh name limit = record { name = name; limit = limit; repositories = []; seen = []; offers = [] }

-- with a repository added
abbrev pub with_repository : TenantState → List ℕ → Repository → TenantState
with_repository tenant name repository = record tenant { repositories = tenant.repositories ++ (name, repository) ∷ [] }

-- with the name of an object added
abbrev pub with_seen : TenantState → List ℕ → TenantState
with_seen tenant name = record tenant { seen = tenant.seen ++ name ∷ [] }

-- with an offer added
abbrev pub with_offer : TenantState → Offer → TenantState
with_offer tenant offer = record tenant { offers = tenant.offers ++ offer ∷ [] }

-- each of the names comes before this one
abbrev pub AreBefore : List (List ℕ) → List ℕ → Type 0
AreBefore names name = All (λ other. name_cmp other name ≡ Less) names

-- the error reports why: some name is not before this one, or there is no room; running out of memory reports nothing
abbrev pub TellsAdd : Type 0 → List (List ℕ) → List ℕ → AddError → Type 0
TellsAdd full names name add.OutOfOrder = ¬ AreBefore names name
TellsAdd full names name add.TooMany = full
TellsAdd full names name add.Memory = ⊤

-- the error reports why: the receiver is the giver, some offer is not before this one, or there are 256; running out of memory
-- reports nothing
abbrev pub TellsOffer : TenantState → Offer → OfferError → Type 0
TellsOffer giver offer offering.ToGiver = offer.receiver ≡ giver.name
TellsOffer giver offer offering.OutOfOrder = ¬ AreBefore (map words_of_offer giver.offers) (words_of_offer offer)
TellsOffer giver offer offering.TooMany = MAX_OFFERS ≤ length giver.offers
TellsOffer giver offer offering.Memory = ⊤
