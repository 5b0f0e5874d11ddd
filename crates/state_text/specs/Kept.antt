-- What outlives a host's process of a world: all except open uploads and the objects' bytes, which are in the store.
use Rattle.std.specs.Prelude.{ℕ, List, map}
use Rattle.std.specs.FinMap.{entries, keys}
use Rattle.fork_model.specs.Offer.{Offer as Made, Pair}
use Rattle.fork_model.specs.View.{View}
use Rattle.fork_model.specs.World.{World}
use Rattle.state_text.specs.Offer.{Offer}
use Rattle.state_text.specs.States.{TenantState, States}

-- for an offer that was made
abbrev pub offer_kept : Pair × Made → Offer
offer_kept (key, offer) = record { receiver = key.0; name = key.1; repository = offer.repository }

-- for a tenant and its view
abbrev pub state_kept : List ℕ × View → TenantState
state_kept (name, view) =
    record { name = name; limit = view.limit; repositories = entries view.repositories; seen = keys view.objects; offers = map offer_kept (entries view.made) }

-- for each tenant
abbrev pub states_of : World → States
states_of world = map state_kept (entries world)
