-- What reading the next frame takes from a reader's bytes: `old` are the bytes before, `new` those after, if they are known.
use Rattle.std.specs.Prelude.{◌≡◌, ℕ, ◌≤◌, ◌<◌, List, ◌∷◌, ◌++◌, length, Option, IfSome}
use Rattle.std.specs.Io.KnownBytes.{Keeps, Consumes, IsAtEnd}
use Rattle.fork_frame.specs.declared.line.Line.{Line}
use Rattle.fork_frame.specs.declared.frame.Next.{Next}
use Rattle.fork_frame.specs.declared.frame.Next.TheVariants.{Frame, End, Bad}
use Rattle.fork_frame.specs.Line.{IsFrameLine}
use Rattle.fork_frame.specs.Frame.{IsFrame, IsBad, frame_bytes}
use Rattle.fork_frame.specs.declared.text.TheConstants.{LONGEST}

-- how much may be read before it is known that there is no frame: as many bytes as are searched for an LF, or a valid line, LF, and
-- too short a payload
pub data IsEnough (front : List ℕ) : Type 0 where
  OfLine : length front ≤ LONGEST → IsEnough front
  OfPayload : (line : Line) (text payload : List ℕ) → IsFrameLine line text → length payload < line.len → front ≡ text ++ 10 ∷ payload → IsEnough front

-- there is no frame, and no more was read than shows it
pub record FindsNoFrame (old new : Option (List ℕ)) : Type 0 where
  pub bad : IfSome old IsBad
  pub front : List ℕ
  pub taken : Consumes old new front
  pub enough : IsEnough front

-- a valid line and its LF come next, and the frame has a payload
pub record BeginsFrame (input : List ℕ) : Type 0 where
  pub line : Line
  pub text : List ℕ
  pub rest : List ℕ
  pub right : IsFrameLine line text
  pub some : 1 ≤ line.len
  pub parts : input ≡ text ++ 10 ∷ rest

-- a frame was taken, and nothing more; or the input was at its end; or there is no frame
abbrev pub IsNext : Option (List ℕ) → Option (List ℕ) → Next → Type 0
IsNext old new (Frame frame) = IsFrame frame × Consumes old new (frame_bytes frame)
IsNext old new End = Keeps old new × IsAtEnd old
IsNext old new Bad = FindsNoFrame old new
