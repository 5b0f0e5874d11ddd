-- The steps of a host, as values.
use Rattle.std.specs.Prelude.{ℕ, Bool, false, List, Option, None, Some, map}
use Rattle.fork_request.specs.Asked.{ask_of}
use Rattle.fork_model.specs.Disclosure.{changes_offers}
use Rattle.fork_model.specs.Runs.{Asks, HostAsks}
use Rattle.fork_model.specs.World.{Event}
use Rattle.fork_host.specs.declared.step.HostStep.{HostStep}
use Rattle.fork_host.specs.declared.step.HostStep.TheVariants.{Tenant, Host}

-- a tenant's request, or one of the host itself
abbrev pub event_given : HostStep → Event
event_given (Tenant name request) = Asks name.now (ask_of request)
event_given (Host request) = HostAsks request

abbrev pub events_given : List HostStep → List Event
events_given steps = map event_given steps

-- the tenant that asks in a step, if a tenant does
abbrev pub asker_of : Event → Option (List ℕ)
asker_of (Asks tenant ask) = Some tenant
asker_of (HostAsks ask) = None

-- whether a tenant asks to change the offers that it has made
abbrev pub changes_offers_in : Event → Bool
changes_offers_in (Asks tenant ask) = changes_offers ask
changes_offers_in (HostAsks ask) = false
