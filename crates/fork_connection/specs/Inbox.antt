-- What becomes of a peer's bytes (own): they come in pieces, and whole frames are taken off their front.
use Rattle.std.specs.Prelude.{◌≡◌, ◌≢◌, ℕ, ◌<◌, ◌⊎◌, All, List, [], ◌∷◌, ◌++◌, length}
use Rattle.fork_frame.specs.declared.line.Line.{Line}
use Rattle.fork_frame.specs.declared.frame.Frame.{Frame}
use Rattle.fork_frame.specs.Line.{IsFrameLine}
use Rattle.fork_frame.specs.Frame.{AreFrames, IsBad, IsFrame, frame_bytes}
use Rattle.fork_connection.specs.declared.inbox.Arrival.{Arrival}
use Rattle.fork_connection.specs.declared.inbox.Arrival.TheVariants.{Frame as Whole, Part, Bad}
use Rattle.fork_connection.specs.declared.inbox.TheConstants.{LONGEST_FRAME, LONGEST_LINE}

-- as many bytes may be pending as the longest frame has
abbrev pub MOST_PENDING : ℕ
MOST_PENDING = LONGEST_FRAME

-- more must come before a frame does: there is no LF, and too few bytes for a line; or there is a valid line, LF, and
-- too short a payload
pub data IsPart (pending : List ℕ) : Type 0 where
  OfLine : All (λ byte. byte ≢ 10) pending → length pending < LONGEST_LINE → IsPart pending
  OfPayload : (line : Line) (text payload : List ℕ) → IsFrameLine line text → length payload < line.len → pending ≡ text ++ 10 ∷ payload → IsPart pending

-- no frame comes, whatever follows
abbrev pub IsHopeless : List ℕ → Type 0
IsHopeless pending = (more : List ℕ) → IsBad (pending ++ more)

-- a frame was taken off the front, and nothing more; or nothing was taken
abbrev pub Arrives : List ℕ → List ℕ → Arrival → Type 0
Arrives old new (Whole frame) = IsFrame frame × (old ≡ frame_bytes frame ++ new)
Arrives old new Part = IsPart old × (new ≡ old)
Arrives old new Bad = IsHopeless old × (new ≡ old)

-- what happens at an inbox
pub data Happening : Type 0 where
  Comes : List ℕ → Happening
  Goes : Frame → Happening

-- the pieces that came, joined
abbrev pub came : List Happening → List ℕ
came [] = []
came (Comes piece ∷ more) = piece ++ came more
came (Goes frame ∷ more) = came more

-- the frames that were taken
abbrev pub taken : List Happening → List Frame
taken [] = []
taken (Comes piece ∷ more) = taken more
taken (Goes frame ∷ more) = frame ∷ taken more

-- what is pending before, what happens, and what is pending after it
abbrev pub Leads : List ℕ → List Happening → List ℕ → Type 0
Leads old [] new = old ≡ new
Leads old (Comes piece ∷ more) new = Leads (old ++ piece) more new
Leads old (Goes frame ∷ more) new = (left : List ℕ) × Arrives old left (Whole frame) × Leads left more new

-- what was pending and what came are the frames that were taken, and what is pending
pub record IsTakenOf (old : List ℕ) (all : List Happening) (new : List ℕ) : Type 0 where
  pub front : List ℕ
  pub frames : AreFrames (taken all) front
  pub parts : old ++ came all ≡ front ++ new

-- no whole frame is at the front
abbrev pub IsSpent : List ℕ → Type 0
IsSpent pending = IsPart pending ⊎ IsHopeless pending

-- the frames taken are those of all that came
abbrev pub TakesWhatCame : Type 0
TakesWhatCame = (old new : List ℕ) (all : List Happening) → Leads old all new → IsTakenOf old all new

-- the same bytes in other pieces, taken at other times, are the same frames
abbrev pub CutsChangeNothing : Type 0
CutsChangeNothing = (old new other : List ℕ) (all others : List Happening) → Leads old all new → Leads old others other
    → came all ≡ came others → IsSpent new → IsSpent other → taken all ≡ taken others
