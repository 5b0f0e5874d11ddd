-- Frames that are repeated (own): no host fault answers them, and no reply is sent.
use Rattle.std.specs.Prelude.{◌≡◌, ℕ, Bool, true, false, cond, IfSome, List, [], ◌∷◌, Option, length}
use Rattle.std.specs.List.{AllByRecursion}
use Rattle.fork_request.specs.Told.{is_host_fault}
use Rattle.fork_request.specs.declared.host_request.HostRequest.{HostRequest}
use Rattle.fork_request.specs.declared.host_request.HostRequest.TheVariants.{Sweep, Collect, Census, Fsck, Tenants, Bad}
use Rattle.fork_request.specs.declared.reply.Reply.{Reply}
use Rattle.fork_model.specs.Runs.{Asks, HostAsks}
use Rattle.fork_model.specs.World.{AreFine, Event}
use Rattle.fork_host.specs.Shown.{HostState}
use Rattle.fork_host.specs.Step.{IsStep}
use Rattle.fork_frame.specs.Frame.{IsRequestStream}
use Rattle.fork_frame.specs.declared.session_end.Ended.{Ended}
use Rattle.fork_frame.specs.declared.frame.Frame.{Frame}
use Rattle.fork_wire.specs.Sessions.{IsAnswered, event_of}

-- whether the world determines the reply to a request of the host itself: it does not for those that report on the store
abbrev pub is_settled_host : HostRequest → Bool
is_settled_host (Sweep most) = false
is_settled_host Collect = false
is_settled_host Census = false
is_settled_host Fsck = false
is_settled_host Tenants = true
is_settled_host Bad = true

-- the same for a step: the world always determines what a tenant is told
abbrev pub is_settled : Event → Bool
is_settled (Asks tenant ask) = true
is_settled (HostAsks request) = is_settled_host request

-- the replies to steps, except those that report on the store
abbrev pub settled : List Event → List Reply → List Reply
settled [] replies = []
settled (event ∷ events) [] = []
settled (event ∷ events) (reply ∷ replies) = cond (is_settled event) (reply ∷ settled events replies) (settled events replies)

-- no step asks about the store
abbrev pub AreSettled : List Event → Type 0
AreSettled events = AllByRecursion (λ event. is_settled event ≡ true) events

-- one frame was answered, without a host fault
pub record IsAnsweredAgain (old new : HostState) (frame : Frame) : Type 0 where
  pub reply : Reply
  pub fine : is_host_fault reply ≡ false
  pub step : IsStep old (event_of frame) reply new

-- this many frames, all the frames at the start of the input, were answered, none by a host fault
pub record IsServedAgain (old new : HostState) (input : Option (List ℕ)) (count : ℕ) : Type 0 where
  pub frames : List Frame
  pub replies : List Reply
  pub answered : IsAnswered old new frames replies
  pub fine : AreFine replies
  pub number : length frames ≡ count
  pub read : IfSome input (λ bytes. (ended : Ended) × IsRequestStream bytes frames ended)
