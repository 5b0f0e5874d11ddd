-- What is sent (own): the frames of replies, and a last line if the input continued with something that is not a frame.
use Rattle.std.specs.Prelude.{◌≡◌, ◌≢◌, ℕ, ◌<◌, ◌^◌, List, [], ◌∷◌, ◌++◌, Option, length, codes, decimal}
use Rattle.std.specs.Io.KnownBytes.{Appends}
use Rattle.fork_frame.specs.declared.session_end.Ended.{Ended}
use Rattle.fork_frame.specs.declared.session_end.Ended.TheVariants.{Clean, BadFrame}

-- the length of the reply's bytes in decimal, LF, and the bytes
abbrev pub reply_frame : List ℕ → List ℕ
reply_frame bytes = decimal (length bytes) ++ 10 ∷ bytes

-- what is sent last
abbrev pub last_line : Ended → List ℕ
last_line Clean = []
last_line BadFrame = codes "! bad-frame\n"

-- the known bytes grew by a prefix of these, and by nothing else
pub record WritesFront (old new : Option (List ℕ)) (bytes : List ℕ) : Type 0 where
  pub front : List ℕ
  pub rest : List ℕ
  pub parts : bytes ≡ front ++ rest
  pub written : Appends old new front

-- bytes begin with at most one reply
abbrev pub OneReply : Type 0
OneReply = (a b r s : List ℕ) → length a < 2 ^ 64 → length b < 2 ^ 64 → reply_frame a ++ r ≡ reply_frame b ++ s → (a ≡ b) × (r ≡ s)

-- no reply begins as the last line does
abbrev pub NoReplyIsLast : Type 0
NoReplyIsLast = (a r s : List ℕ) → length a < 2 ^ 64 → reply_frame a ++ r ≢ last_line BadFrame ++ s
