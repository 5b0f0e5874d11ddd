-- What is done at connections, one act after another (own). Any schedule of many connections is a list of such acts.
use Rattle.std.specs.Prelude.{◌≡◌, ◌≢◌, ℕ, ◌≤◌, ◌==◌, Bool, cond, List, [], ◌∷◌, ◌++◌, length, Option, OnOk, Result, Ok, Err, false, true}
use Rattle.std.specs.Io.KnownBytes.{Appends, Consumes, IsAtEnd}
use Rattle.fork_request.specs.Told.{bytes_of}
use Rattle.fork_request.specs.declared.reply.Reply.{Reply}
use Rattle.fork_frame.specs.declared.session_end.Ended.TheVariants.{BadFrame}
use Rattle.fork_frame.specs.declared.frame.Frame.{Frame}
use Rattle.fork_frame.specs.Frame.{AreFrames, IsBad, IsFrame, frame_bytes}
use Rattle.fork_frame.specs.Reply.{last_line, reply_frame}
use Rattle.fork_connection.specs.declared.connection.Turn.{Turn}
use Rattle.fork_connection.specs.declared.connection.TurnFault.{TurnFault}
use Rattle.fork_connection.specs.declared.connection.TurnFault.TheVariants.{Broken, Lost}
use Rattle.fork_connection.specs.Inbox.{IsHopeless}

-- the state of a peer: what its reader has left and its writer holds, if that is known, what came and was not taken
-- yet, and what waits to go out
pub record Peer : Type 0 where
  pub left : Option (List ℕ)
  pub out : Option (List ℕ)
  pub pending : List ℕ
  pub waiting : List ℕ

-- an act at a peer
pub data Act : Type 0 where
  -- these bytes came
  Reads : List ℕ → Act
  -- these bytes went out
  Writes : List ℕ → Act
  -- this frame was answered with this reply
  Answers : Frame → Reply → Act
  -- no frame comes, and the peer is told so
  Refuses : Act

-- what is pending begins no frame, whatever follows, or because nothing more follows
pub data NoFrameComes (peer : Peer) : Type 0 where
  Hopeless : IsHopeless peer.pending → NoFrameComes peer
  Ended : IsAtEnd peer.left → IsBad peer.pending → NoFrameComes peer

-- how an act changes its peer; a frame is taken only if nothing waits to go out
abbrev pub Does : Peer → Act → Peer → Type 0
Does old (Reads bytes) new = Consumes old.left new.left bytes × (new.pending ≡ old.pending ++ bytes) × (new.waiting ≡ old.waiting) × (new.out ≡ old.out)
Does old (Writes bytes) new = Appends old.out new.out bytes × (old.waiting ≡ bytes ++ new.waiting) × (new.pending ≡ old.pending) × (new.left ≡ old.left)
Does old (Answers frame reply) new = IsFrame frame × (old.waiting ≡ []) × (old.pending ≡ frame_bytes frame ++ new.pending) × (new.waiting ≡ reply_frame (bytes_of reply)) × (new.left ≡ old.left) × (new.out ≡ old.out)
Does old Refuses new = NoFrameComes old × (old.waiting ≡ []) × (new.waiting ≡ last_line BadFrame) × (new.pending ≡ old.pending) × (new.left ≡ old.left) × (new.out ≡ old.out)

-- acts at one peer
abbrev pub Acts : Peer → List Act → Peer → Type 0
Acts old [] new = old ≡ new
Acts old (act ∷ acts) new = (next : Peer) × Does old act next × Acts next acts new

-- the frames that were answered, and the replies
abbrev pub asked : List Act → List Frame
asked [] = []
asked (Answers frame reply ∷ acts) = frame ∷ asked acts
asked (Reads bytes ∷ acts) = asked acts
asked (Writes bytes ∷ acts) = asked acts
asked (Refuses ∷ acts) = asked acts

-- what was to go out
abbrev pub owed : List Act → List ℕ
owed [] = []
owed (Answers frame reply ∷ acts) = reply_frame (bytes_of reply) ++ owed acts
owed (Reads bytes ∷ acts) = owed acts
owed (Writes bytes ∷ acts) = owed acts
owed (Refuses ∷ acts) = last_line BadFrame ++ owed acts

-- what went out
abbrev pub sent : List Act → List ℕ
sent [] = []
sent (Writes bytes ∷ acts) = bytes ++ sent acts
sent (Reads bytes ∷ acts) = sent acts
sent (Answers frame reply ∷ acts) = sent acts
sent (Refuses ∷ acts) = sent acts

-- what went out waited before these acts, so none of it is a reply to a frame that they answered
abbrev pub SendsWhatWaited : Peer → List Act → Type 0
SendsWhatWaited old acts = (rest : List ℕ) × (old.waiting ≡ sent acts ++ rest)

-- a peer's bytes are its frames in order and what is pending; and what went out and what waits are what was waiting and the replies
-- to these frames in order
pub record IsHeard (old new : Peer) (acts : List Act) : Type 0 where
  pub came : List ℕ
  pub front : List ℕ
  pub gone : List ℕ
  pub right : AreFrames (asked acts) front
  pub read : Consumes old.left new.left came
  pub taken : old.pending ++ came ≡ front ++ new.pending
  pub written : Appends old.out new.out gone
  pub told : old.waiting ++ owed acts ≡ gone ++ new.waiting

-- an act at one of many peers
pub record Step : Type 0 where
  pub at : ℕ
  pub act : Act

-- the acts at one of many peers
abbrev pub acts_at : ℕ → List Step → List Act
acts_at peer [] = []
acts_at peer (step ∷ steps) = cond (step.at == peer) (step.act ∷ acts_at peer steps) (acts_at peer steps)

-- all acts, in the order of time
abbrev pub acts_of : List Step → List Act
acts_of [] = []
acts_of (step ∷ steps) = step.act ∷ acts_of steps

-- an act at one of many peers leaves the others as they are
pub record IsStep (old new : ℕ → Peer) (step : Step) : Type 0 where
  pub does : Does (old step.at) step.act (new step.at)
  pub others : (peer : ℕ) → peer ≢ step.at → new peer ≡ old peer

-- acts at many peers
abbrev pub Runs : (ℕ → Peer) → List Step → (ℕ → Peer) → Type 0
Runs old [] new = (peer : ℕ) → old peer ≡ new peer
Runs old (step ∷ steps) new = (next : ℕ → Peer) × IsStep old next step × Runs next steps new

-- whatever the schedule, each peer is heard as if it were alone
abbrev pub EachIsHeard : Type 0
EachIsHeard = (old new : ℕ → Peer) (steps : List Step) → Runs old steps new → (peer : ℕ) → IsHeard (old peer) (new peer) (acts_at peer steps)

-- answers lead from one state of what answers to another
module _ {H : Type 0} where
  abbrev pub Chain : (H → Frame → Reply → H → Type 0) → H → List Act → H → Type 0
  Chain answers old [] new = old ≡ new
  Chain answers old (Answers frame reply ∷ acts) new = (next : H) × answers old frame reply next × Chain answers next acts new
  Chain answers old (Reads bytes ∷ acts) new = Chain answers old acts new
  Chain answers old (Writes bytes ∷ acts) new = Chain answers old acts new
  Chain answers old (Refuses ∷ acts) new = Chain answers old acts new

-- a relation between the state of what answers, a frame, its reply, and the state after it
abbrev pub Answered : Type 0 → Type 1
Answered H = H → Frame → Reply → H → Type 0

-- a relation between the state of what answers, a frame without a reply, and the state after it
abbrev pub Loses : Type 0 → Type 1
Loses H = H → Frame → H → Type 0

module _ {H : Type 0} where
  -- answers, and then a frame that has none
  pub record IsLoss (answered : Answered H) (lost : Loses H) (before after : H) (acts : List Act) : Type 0 where
    pub mid : H
    pub chain : Chain answered before acts mid
    pub frame : Frame
    pub right : IsFrame frame
    pub is : lost mid frame after

  -- answers lead from the one state to the other, or end in a loss
  abbrev pub LeadsTo : Answered H → Loses H → H → H → List Act → Bool → Type 0
  LeadsTo answered lost before after acts false = Chain answered before acts after
  LeadsTo answered lost before after acts true = IsLoss answered lost before after acts

-- a turn ended in a loss
abbrev pub is_loss : Result Turn TurnFault → Bool
is_loss (Ok turn) = false
is_loss (Err Broken) = false
is_loss (Err Lost) = true

-- what a connection has in memory
pub record Talk : Type 0 where
  pub pending : List ℕ
  pub waiting : List ℕ
  pub is_ending : Bool

-- a connection with the two ends of its stream
abbrev pub peer_of : Option (List ℕ) → Option (List ℕ) → Talk → Peer
peer_of left out talk = record { left = left; out = out; pending = talk.pending; waiting = talk.waiting }

-- bytes came, or the last line waits; no frame was answered, and nothing went out; if the connection broke, it did
-- after these acts
pub record IsExchange (old new : Peer) (result : Result Turn TurnFault) : Type 0 where
  pub acts : List Act
  pub left : Peer
  pub does : Acts old acts left
  pub none : asked acts ≡ []
  pub unsent : sent acts ≡ []
  pub still : new.out ≡ old.out
  pub found : is_loss result ≡ false
  pub stays : OnOk result (left ≡ new)

-- some of these bytes went out, and the rest waits
pub record IsSent (bytes waiting : List ℕ) (before after : Option (List ℕ)) : Type 0 where
  pub gone : List ℕ
  pub parts : bytes ≡ gone ++ waiting
  pub written : Appends before after gone

module _ {H : Type 0} where
  -- a frame was answered, and its reply waits
  pub record IsReplied (answered : Answered H) (old new : H) (frame : Frame) (waiting : List ℕ) (result : Result Turn TurnFault) : Type 0 where
    pub reply : Reply
    pub is : answered old frame reply new
    pub waits : OnOk result (waiting ≡ reply_frame (bytes_of reply))

  -- a frame was answered, and its reply waits, or it has no reply
  abbrev pub Replies : Answered H → Loses H → H → H → Frame → List ℕ → Result Turn TurnFault → Type 0
  Replies answered lost old new frame waiting (Ok turn) = IsReplied answered old new frame waiting (Ok turn)
  Replies answered lost old new frame waiting (Err Broken) = IsReplied answered old new frame waiting (Err Broken)
  Replies answered lost old new frame waiting (Err Lost) = lost old frame new

  -- one turn: at most one frame was answered, and only what waited before went out, whether or not the connection broke; if it did,
  -- it did after these acts
  pub record IsTurn (answered : Answered H) (lost : Loses H) (before after : H) (old new : Peer) (result : Result Turn TurnFault) : Type 0 where
    pub acts : List Act
    pub left : Peer
    pub does : Acts old acts left
    pub leads : LeadsTo answered lost before after acts (is_loss result)
    pub few : length (asked acts) ≤ 1
    pub late : SendsWhatWaited old acts
    pub gone : Appends old.out new.out (sent acts)
    pub stays : OnOk result (left ≡ new)
