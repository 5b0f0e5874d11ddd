-- What a session does: the frames received, the replies sent, and the worlds that the host shows.
use Rattle.std.specs.Prelude.{◌≡◌, ◌⊎◌, ℕ, Bool, false, cond, IfSome, List, [], ◌∷◌, ◌++◌, Option, Some, flat_map, map, ⊤}
use Rattle.std.specs.FinMap.{get}
use Rattle.std.specs.Ordering.{eq_by_cmp}
use Rattle.std.specs.Io.KnownBytes.{Appends}
use Rattle.git_name.specs.Name.{name_cmp}
use Rattle.fork_request.specs.Asked.{asked, asked_host}
use Rattle.fork_request.specs.Told.{bytes_of}
use Rattle.fork_request.specs.declared.reply.Reply.{Reply}
use Rattle.fork_model.specs.Runs.{Asks, HostAsks}
use Rattle.fork_model.specs.View.{View}
use Rattle.fork_model.specs.World.{World, Event, Explains, IsUnfaulted, LeavesOffers, alone, meeting, own, told}
use Rattle.fork_model.specs.World as World
use Rattle.fork_model.specs.Context.{met_by}
use Rattle.fork_host.specs.Shown.{HostState, Trusted, world_of}
use Rattle.fork_host.specs.Step.{IsRun}
use Rattle.fork_frame.specs.Frame.{AreFrames, IsBad, IsRequestStream}
use Rattle.fork_frame.specs.Next.{BeginsFrame}
use Rattle.fork_frame.specs.Reply.{WritesFront, last_line, reply_frame}
use Rattle.fork_frame.specs.declared.asker.Asker.{Asker}
use Rattle.fork_frame.specs.declared.asker.Asker.TheVariants.{Tenant, Host}
use Rattle.fork_frame.specs.declared.session_end.Ended.{Ended}
use Rattle.fork_frame.specs.declared.session_end.Ended.TheVariants.{BadFrame}
use Rattle.fork_frame.specs.declared.frame.Frame.{Frame}
use Rattle.fork_wire.specs.declared.fault.SessionFault.{SessionFault}
use Rattle.fork_wire.specs.declared.fault.SessionFault.TheVariants.{Read, Write, Memory, Journal}

-- what a payload asks, depending on who sends it
abbrev pub event_by : Asker → List ℕ → Event
event_by (Tenant name) payload = Asks name (asked payload)
event_by Host payload = HostAsks (asked_host payload)

abbrev pub event_of : Frame → Event
event_of frame = event_by frame.asker frame.payload

abbrev pub events_of : List Frame → List Event
events_of frames = map event_of frames

-- the payloads that a tenant sends in these frames, in order
abbrev pub is_of : List ℕ → Asker → Bool
is_of tenant (Tenant name) = eq_by_cmp name_cmp tenant name
is_of tenant Host = false

abbrev pub payloads_of : List ℕ → List Frame → List (List ℕ)
payloads_of tenant [] = []
payloads_of tenant (frame ∷ frames) = cond (is_of tenant frame.asker) (frame.payload ∷ payloads_of tenant frames) (payloads_of tenant frames)

-- the frames of these replies, one after another
abbrev pub frames_of : List Reply → List ℕ
frames_of replies = flat_map (λ reply. reply_frame (bytes_of reply)) replies

-- the bytes sent to a tenant: the frames of the replies to what it sent
abbrev pub told_to : List ℕ → List Frame → List Reply → List ℕ
told_to tenant frames replies = frames_of (told tenant (events_of frames) replies)

-- each tenant that no host fault answered was told what a private host that meets the same offers would tell it, and has the view
-- that it would have there; if no offer to it was made or withdrawn, a private host that meets the offers at the start is enough
pub record IsPrivateRun (old : World) (events : List Event) (replies : List Reply) (new : World) : Type 0 where
  pub met : (tenant : List ℕ) (view : View) (run : Explains old events replies new) → get old tenant ≡ Some view → IsUnfaulted tenant events replies
      → (told tenant events replies ≡ (alone view (World.met tenant old events replies new run)).0) × (get new tenant ≡ Some (alone view (World.met tenant old events replies new run)).1)
  pub steady : (tenant : List ℕ) (view : View) → get old tenant ≡ Some view → IsUnfaulted tenant events replies → LeavesOffers tenant events replies
      → (told tenant events replies ≡ (alone view (meeting (met_by old tenant) (own tenant events))).0) × (get new tenant ≡ Some (alone view (meeting (met_by old tenant) (own tenant events))).1)

-- each frame has one reply, and the replies lead from the old state to the new one. Over a trusted store each tenant's replies are
-- those of a private host
pub record IsAnswered (old new : HostState) (frames : List Frame) (replies : List Reply) : Type 0 where
  pub ran : IsRun old (events_of frames) replies new
  pub private_run : Trusted old → IsPrivateRun (world_of old) (events_of frames) replies (world_of new)

-- a session that reached its end: all frames of the input were answered, and their replies were sent, then the last line
pub record IsServed (old new : HostState) (input before after : Option (List ℕ)) (ended : Ended) : Type 0 where
  pub frames : List Frame
  pub replies : List Reply
  pub answered : IsAnswered old new frames replies
  pub read : IfSome input (λ bytes. IsRequestStream bytes frames ended)
  pub written : Appends before after (frames_of replies ++ last_line ended)

-- the input begins with these frames
abbrev pub BeginsWith : List Frame → List ℕ → Type 0
BeginsWith frames input = (came : List ℕ) × (rest : List ℕ) × AreFrames frames came × (input ≡ came ++ rest)

-- there is something to send: a reply, or the report that the input is not a frame
abbrev pub IsTelling : List Frame → Option (List ℕ) → Type 0
IsTelling [] input = IfSome input IsBad
IsTelling (frame ∷ frames) input = ⊤

-- all replies so far were sent, and after the frames so far comes a frame that is to have a payload
pub record LacksPayload (frames : List Frame) (replies : List Reply) (input before after : Option (List ℕ)) : Type 0 where
  pub comes : IfSome input (λ bytes. (came : List ℕ) × (rest : List ℕ) × AreFrames frames came × (bytes ≡ came ++ rest) × BeginsFrame rest)
  pub written : Appends before after (frames_of replies)

-- nothing of the last reply was sent; those before it were
pub record LacksReply (replies : List Reply) (before after : Option (List ℕ)) : Type 0 where
  pub sent : List Reply
  pub last : Reply
  pub parts : replies ≡ sent ++ last ∷ []
  pub written : Appends before after (frames_of sent)

-- a prefix of the last reply's frame was sent; those before it were sent whole
pub record BreaksReply (replies : List Reply) (before after : Option (List ℕ)) : Type 0 where
  pub sent : List Reply
  pub last : Reply
  pub parts : replies ≡ sent ++ last ∷ []
  pub mid : Option (List ℕ)
  pub written : Appends before mid (frames_of sent)
  pub broken : WritesFront mid after (reply_frame (bytes_of last))

-- all replies so far were sent, what follows the frames so far is not a frame, and a prefix of the line that reports it was sent
pub record BreaksEnd (frames : List Frame) (replies : List Reply) (input before after : Option (List ℕ)) : Type 0 where
  pub comes : IfSome input (λ bytes. (came : List ℕ) × (rest : List ℕ) × AreFrames frames came × (bytes ≡ came ++ rest) × IsBad rest)
  pub mid : Option (List ℕ)
  pub written : Appends before mid (frames_of replies)
  pub broken : WritesFront mid after (last_line BadFrame)

-- a session that a fault stopped: the first frames of the input were answered. If reading failed, all their replies were sent.
-- Writing fails only if there is something to send: then a prefix of it was sent, after all that precedes it. Memory runs out only
-- for an incoming payload, or for the bytes of a reply. If the last frame could not be kept, its reply was not sent
pub record IsStopped (old new : HostState) (input before after : Option (List ℕ)) (fault : SessionFault) : Type 0 where
  pub frames : List Frame
  pub replies : List Reply
  pub answered : IsAnswered old new frames replies
  pub read : IfSome input (BeginsWith frames)
  pub written : fault ≡ Read → Appends before after (frames_of replies)
  pub told : fault ≡ Write → IsTelling frames input
  pub broken : fault ≡ Write → BreaksReply replies before after ⊎ BreaksEnd frames replies input before after
  pub memory : fault ≡ Memory → LacksPayload frames replies input before after ⊎ LacksReply replies before after
  pub unkept : fault ≡ Journal → LacksReply replies before after
