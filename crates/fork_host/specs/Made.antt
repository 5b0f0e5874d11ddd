-- Offers that a tenant has made, as a host keeps them (own): only the repository of each.
use Rattle.std.specs.Prelude.{◌≢◌, ℕ, List, [], codes, if◌then◌else◌}
use Rattle.std.specs.Coded.{Coded}
use Rattle.std.specs.FinMap.{FinMap, code, keys, values}
use Rattle.std.specs.List.{flat_map}
use Rattle.git_name.specs.Maps.{map_values}
use Rattle.git_name.specs.Same.{same_name}
use Rattle.git_reftx.specs.Repository.{Repository, repository_code}
use Rattle.fork_reach.specs.Source.{Objects}
use Rattle.fork_request.specs.Names.{IsTenantName}
use Rattle.fork_model.specs.Answer.{offer_row}
use Rattle.fork_model.specs.Offer.{Offer as Shown, Offers, Pair, offered, pair_cmp, pair_code}
use Rattle.state_text.specs.Offer.{Offer}

-- each under its receiver and the name of the repository
abbrev pub Made : Type 0
Made = FinMap pair_cmp Repository

-- as they are shown, if these objects are seen: each with what its references reach among them
abbrev pub made_shown : Objects → Made → Offers
made_shown objects made = map_values (offered objects) made

-- the repositories of offers that are shown
abbrev pub made_of : Offers → Made
made_of offers = map_values (λ (offer : Shown). offer.repository) offers

-- the targets of the references of these repositories
abbrev pub targets_kept : Made → List (List ℕ)
targets_kept made = flat_map (λ (repository : Repository). values repository.references) (values made)

-- an offer of a state, as it is kept
abbrev pub pair_of : Offer → Pair
pair_of offer = (offer.receiver, offer.name)

abbrev pub entry_of : Offer → Pair × Repository
entry_of offer = (pair_of offer, offer.repository)

-- and as a state describes it
abbrev pub offer_told : Pair × Repository → Offer
offer_told (pair, repository) = record { receiver = pair.0; name = pair.1; repository = repository }

-- it is made to a tenant, and not to the giver
pub record IsToAnother (giver : List ℕ) (pair : Pair) : Type 0 where
  pub named : IsTenantName pair.0
  pub other : pair.0 ≢ giver

-- offers have a code, so that they can be part of a model's value
abbrev pub made_code : Coded Made
made_code = code pair_code repository_code

-- a row for each offer of a giver to this receiver
abbrev pub rows_from : List ℕ → List ℕ → Made → List ℕ
rows_from giver receiver made = flat_map (λ key. if same_name key.0 receiver then offer_row (codes "from ") (giver, key.1) else []) (keys made)
