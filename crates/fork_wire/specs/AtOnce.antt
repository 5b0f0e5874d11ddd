-- Many connections to one host at once (own): what was done at all of them, and what was answered, form one list.
use Rattle.std.specs.Prelude.{◌⊎◌, Bool, ℕ, List, [], ◌∷◌, Option, Result, Ok, Err}
use Rattle.std.specs.Io.KnownBytes.{Appends}
use Rattle.fork_request.specs.declared.reply.Reply.{Reply}
use Rattle.fork_host.specs.Shown.{HostState}
use Rattle.fork_host.specs.Step.{IsStep}
use Rattle.fork_frame.specs.Frame.{IsFrame}
use Rattle.fork_frame.specs.declared.frame.Frame.{Frame}
use Rattle.fork_connection.specs.Rounds.{GoesOut, Stands}
use Rattle.fork_connection.specs.Turns.{Act, Answers, IsHeard, Peer, Reads, Refuses, Runs, SendsWhatWaited, Step, Writes, acts_at, acts_of, asked}
use Rattle.fork_wire.specs.Kept.{kept_bytes}
use Rattle.fork_wire.specs.Sessions.{IsAnswered, event_of}
use Rattle.fork_wire.specs.declared.journal.NotKept.{NotKept}

-- the replies to the frames that were answered
abbrev pub replied : List Act → List Reply
replied [] = []
replied (Answers frame reply ∷ acts) = reply ∷ replied acts
replied (Reads bytes ∷ acts) = replied acts
replied (Writes bytes ∷ acts) = replied acts
replied (Refuses ∷ acts) = replied acts

-- the frames and the replies of all connections, in the order of time
abbrev pub frames_in : List Step → List Frame
frames_in steps = asked (acts_of steps)

abbrev pub replies_in : List Step → List Reply
replies_in steps = replied (acts_of steps)

-- acts led from the first peers to the last ones, the host answered as in one session, and the journal has what is kept of that
-- session, in the order of the answers
pub record IsServedAtOnce (old new : HostState) (before after : Option (List ℕ)) (first last : ℕ → Peer) : Type 0 where
  pub steps : List Step
  pub runs : Runs first steps last
  pub answered : IsAnswered old new (frames_in steps) (replies_in steps)
  pub kept : Appends before after (kept_bytes (frames_in steps) (replies_in steps))

-- each peer was sent only what already waited for it
abbrev pub SendsLate : (ℕ → Peer) → List Step → Type 0
SendsLate first steps = (place : ℕ) → SendsWhatWaited (first place) (acts_at place steps)

-- turns of the same kind, up to a frame that was answered but could not be kept: nothing was done after that, so its reply was
-- not sent
pub record IsCutOff {P : Type 0} (peer : P → Peer) (old new : HostState) (before : Option (List ℕ)) (first : ℕ → Peer) (parties left : List P) : Type 0 where
  pub mid : HostState
  pub kept : Option (List ℕ)
  pub last : ℕ → Peer
  pub served : IsServedAtOnce old mid before kept first last
  pub late : SendsLate first served.steps
  pub gone : GoesOut peer parties left served.steps
  pub frame : Frame
  pub right : IsFrame frame
  pub reply : Reply
  pub step : IsStep mid (event_of frame) reply new

-- a round led from the connections in one table to those in another, and only what already waited was sent
pub record IsRound {P : Type 0} (peer : P → Peer) (is_over : P → Bool) (old new : HostState) (before after : Option (List ℕ)) (first : ℕ → Peer) (parties left : List P) : Type 0 where
  pub last : ℕ → Peer
  pub stands : Stands peer is_over last left
  pub served : IsServedAtOnce old new before after first last
  pub late : SendsLate first served.steps
  pub gone : GoesOut peer parties left served.steps

-- turns of all connections, but what was kept of them could not be synced, so no reply to it was sent
pub record IsUnsynced {P : Type 0} (peer : P → Peer) (old new : HostState) (before : Option (List ℕ)) (first : ℕ → Peer) (parties left : List P) : Type 0 where
  pub kept : Option (List ℕ)
  pub last : ℕ → Peer
  pub served : IsServedAtOnce old new before kept first last
  pub late : SendsLate first served.steps
  pub gone : GoesOut peer parties left served.steps

-- how a round ends: complete, cut off, or not synced
abbrev pub EndsRound : {P : Type 0} (peer : P → Peer) (is_over : P → Bool) → HostState → HostState → Option (List ℕ) → Option (List ℕ) → (ℕ → Peer) → List P → List P → Result (Unit {0}) NotKept → Type 0
EndsRound peer is_over old new before after first parties left (Ok done) = IsRound peer is_over old new before after first parties left
EndsRound peer is_over old new before after first parties left (Err lost) = IsCutOff peer old new before first parties left ⊎ IsUnsynced peer old new before first parties left

-- rounds, one after another, are one serving
abbrev pub RoundsAreOne : Type 0
RoundsAreOne = (old mid new : HostState) (before then after : Option (List ℕ)) (first next last : ℕ → Peer)
    → IsServedAtOnce old mid before then first next → IsServedAtOnce mid new then after next last → IsServedAtOnce old new before after first last

-- each peer is heard as if it were alone
abbrev pub EachIsHeardAtOnce : Type 0
EachIsHeardAtOnce = (old new : HostState) (before after : Option (List ℕ)) (first last : ℕ → Peer) → (served : IsServedAtOnce old new before after first last)
    → (peer : ℕ) → IsHeard (first peer) (last peer) (acts_at peer served.steps)
