-- All that a host answered while it served is one run, whatever was saved between.
use Rattle.std.proofs.Common.{◌≡◌, ℕ, List, [], ◌∷◌, ◌++◌, Option, Some, None, sym, ap, ◌∙◌, subst}
use Rattle.std.proofs.lemmas.List.{map-append}
use Rattle.fork_request.specs.declared.reply.Reply.{Reply}
use Rattle.fork_model.specs.World.{Event, Explains, World}
use Rattle.fork_host.specs.Shown.{HostState, Trusted, world_of}
use Rattle.fork_host.proofs.StepLemmas.{run_explained, run_honest}
use Rattle.fork_frame.specs.declared.frame.Frame.{Frame}
use Rattle.fork_wire.specs.Sessions.{event_of, events_of}
use Rattle.fork_wire.proofs.Going.{private_of}
use Rattle.fork_program.specs.Keeping.{IsSaved}
use Rattle.fork_program.specs.Serving.{AreServed, Asked, Idle, IsConnection, IsConnectionThenSaved, IsVisit, IsVisitThenSaved, Pauses, ServingIsOneRun, Visits}

-- two runs, one after the other, explain as one
explains_joined : (old mid new : World) (events more : List Event) (replies others : List Reply) → Explains old events replies mid → Explains mid more others new → Explains old (events ++ more) (replies ++ others) new
explains_joined old mid new [] more [] others run rest = subst (λ (w : World). Explains w more others new) run rest
explains_joined old mid new [] more (r ∷ replies) others run rest = absurd run
explains_joined old mid new (e ∷ events) more [] others run rest = absurd run
explains_joined old mid new (e ∷ events) more (r ∷ replies) others run rest = (run.0, run.1, explains_joined run.0 mid new events more replies others run.2 rest)

-- frames that explain, and a store that is trusted still
record Led (old new : HostState) : Type 0 where
  pub frames : List Frame
  pub replies : List Reply
  pub explained : Explains (world_of old) (events_of frames) replies (world_of new)
  pub trusted : Trusted new

led_then : (old mid new : HostState) → Led old mid → Led mid new → Led old new
led_then old mid new one two =
    let events : events_of (one.frames ++ two.frames) ≡ events_of one.frames ++ events_of two.frames = map-append event_of one.frames two.frames in
    record {
      frames = one.frames ++ two.frames;
      replies = one.replies ++ two.replies;
      explained = subst (λ (e : List Event). Explains (world_of old) e (one.replies ++ two.replies) (world_of new)) (sym events)
          (explains_joined (world_of old) (world_of mid) (world_of new) (events_of one.frames) (events_of two.frames) one.replies two.replies one.explained two.explained);
      trusted = two.trusted;
    }

led_visit : (old new : HostState) → IsVisit old new → Trusted old → Led old new
led_visit old new (Idle same) trusted = record { frames = []; replies = []; explained = ap world_of same; trusted = subst Trusted (sym same) trusted }
led_visit old new (Asked frames replies answered) trusted = record {
  frames = frames;
  replies = replies;
  explained = run_explained old new (events_of frames) replies answered.ran trusted;
  trusted = run_honest old new (events_of frames) replies answered.ran ∙ trusted;
}

led_saved : (old new : HostState) → IsSaved old new → Trusted old → Led old new
led_saved old new saved trusted = record { frames = []; replies = []; explained = saved.shows trusted; trusted = saved.trusted trusted }

led_same : (old new : HostState) → old ≡ new → Trusted old → Led old new
led_same old new same trusted = record { frames = []; replies = []; explained = ap world_of (sym same); trusted = subst Trusted same trusted }

led_visit_saved : (old new : HostState) → IsVisitThenSaved old new → Trusted old → Led old new
led_visit_saved old new it trusted =
    let visit = led_visit old it.left it.visit trusted in
    led_then old it.left new visit (led_saved it.left new it.saved visit.trusted)

led_pauses : (old new : HostState) (states : List HostState) → Pauses old states new → Trusted old → Led old new
led_pauses old new [] same trusted = led_same old new same trusted
led_pauses old new (next ∷ states) (first, rest) trusted =
    let one = led_visit_saved old next first trusted in
    led_then old next new one (led_pauses next new states rest one.trusted)

led_connection : (old new : HostState) → IsConnection old new → Trusted old → Led old new
led_connection old new it trusted =
    let pauses = led_pauses old it.left it.states it.pauses trusted in
    led_then old it.left new pauses (led_visit it.left new it.last pauses.trusted)

led_connection_saved : (old new : HostState) → IsConnectionThenSaved old new → Trusted old → Led old new
led_connection_saved old new it trusted =
    let connection = led_connection old it.left it.connection trusted in
    led_then old it.left new connection (led_saved it.left new it.saved connection.trusted)

led_visits : (old new : HostState) (states : List HostState) → Visits old states new → Trusted old → Led old new
led_visits old new [] same trusted = led_same old new same trusted
led_visits old new (next ∷ states) (first, rest) trusted =
    let one = led_connection_saved old next first trusted in
    led_then old next new one (led_visits next new states rest one.trusted)

led_served : (at_once : Option ℕ) (old new : HostState) (n : ℕ) → AreServed at_once old new n → Trusted old → Led old new
led_served None old new n served trusted = led_visits old new served.states served.chain trusted
led_served (Some most) old new n served trusted = led_connection old new served trusted

pub one_run : ServingIsOneRun
one_run at_once old new n served trusted =
    let led = led_served at_once old new n served trusted in
    record { frames = led.frames; replies = led.replies; explained = led.explained; private_run = private_of (world_of old) (world_of new) (events_of led.frames) led.replies led.explained }
