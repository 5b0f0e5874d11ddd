-- Frames of requests (own): a line, LF, and the payload. An input is a sequence of frames.
use Rattle.std.specs.Prelude.{◌≡◌, ◌≢◌, ℕ, ◌≤◌, All, List, [], ◌∷◌, ◌++◌, length, flat_map}
use Rattle.fork_frame.specs.declared.frame.Frame.{Frame}
use Rattle.fork_frame.specs.declared.session_end.Ended.{Ended}
use Rattle.fork_frame.specs.declared.session_end.Ended.TheVariants.{Clean, BadFrame}
use Rattle.fork_frame.specs.Asker.{IsAsker}
use Rattle.fork_frame.specs.Line.{line_text}
use Rattle.fork_request.specs.declared.request.TheConstants.{MAX_PAYLOAD}

-- the line, LF, and the payload
abbrev pub frame_bytes : Frame → List ℕ
frame_bytes frame = line_text (record { asker = frame.asker; len = length frame.payload }) ++ 10 ∷ frame.payload

-- the asker has a valid name, and the payload is not too long
pub record IsFrame (frame : Frame) : Type 0 where
  pub named : IsAsker frame.asker
  pub fits : length frame.payload ≤ MAX_PAYLOAD

-- there is more input, and it does not begin with a frame
pub record IsBad (input : List ℕ) : Type 0 where
  pub some : 1 ≤ length input
  pub none : (frame : Frame) (rest : List ℕ) → IsFrame frame → input ≢ frame_bytes frame ++ rest

-- the bytes are these frames, one after another
pub record AreFrames (frames : List Frame) (bytes : List ℕ) : Type 0 where
  pub right : All IsFrame frames
  pub spelled : bytes ≡ flat_map frame_bytes frames

-- what is left when a session ends
abbrev pub EndsAt : Ended → List ℕ → Type 0
EndsAt Clean rest = rest ≡ []
EndsAt BadFrame rest = IsBad rest

-- the input is these frames, and ends this way
pub record IsRequestStream (input : List ℕ) (frames : List Frame) (ended : Ended) : Type 0 where
  pub came : List ℕ
  pub rest : List ℕ
  pub parts : input ≡ came ++ rest
  pub right : AreFrames frames came
  pub ends : EndsAt ended rest

-- bytes begin with at most one frame
abbrev pub OneFrame : Type 0
OneFrame = (f g : Frame) (r s : List ℕ) → IsFrame f → IsFrame g → frame_bytes f ++ r ≡ frame_bytes g ++ s → (f ≡ g) × (r ≡ s)

-- an input is at most one list of frames, and ends in one way
abbrev pub OneStream : Type 0
OneStream = (input : List ℕ) (fs gs : List Frame) (a b : Ended) → IsRequestStream input fs a → IsRequestStream input gs b → (fs ≡ gs) × (a ≡ b)
