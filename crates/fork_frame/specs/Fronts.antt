-- What is read of frames that were cut off (own).
use Rattle.std.specs.Prelude.{◌≡◌, ℕ, All, List, ◌++◌, flat_map}
use Rattle.fork_frame.specs.Frame.{IsFrame, IsRequestStream, frame_bytes}
use Rattle.fork_frame.specs.declared.frame.Frame.{Frame}
use Rattle.fork_frame.specs.declared.session_end.Ended.{Ended}

-- these frames are read, and then the first of the others
pub record HasAllFrames (read frames others : List Frame) : Type 0 where
  pub found : List Frame
  pub lost : List Frame
  pub parts : others ≡ found ++ lost
  pub all : read ≡ frames ++ found

-- so it is of an input that has these frames, and behind them any front of the others
abbrev pub FrontIsRead : Type 0
FrontIsRead = (frames others read : List Frame) (tail rest : List ℕ) (ended : Ended) → All IsFrame frames → All IsFrame others → flat_map frame_bytes others ≡ tail ++ rest
    → IsRequestStream (flat_map frame_bytes frames ++ tail) read ended → HasAllFrames read frames others
