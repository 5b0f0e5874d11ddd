-- The line that begins a frame (own): who asks, SP, and the payload's length in decimal.
use Rattle.std.specs.Prelude.{◌≡◌, ℕ, ◌≤◌, List, ◌∷◌, ◌++◌, decimal}
use Rattle.fork_frame.specs.declared.line.Line.{Line}
use Rattle.fork_frame.specs.Asker.{IsAsker, asker_word}
use Rattle.fork_request.specs.declared.request.TheConstants.{MAX_PAYLOAD}

-- the line's text, without its LF
abbrev pub line_text : Line → List ℕ
line_text line = asker_word line.asker ++ 32 ∷ decimal line.len

-- the text is this line's: the asker has a valid name, and the length is allowed
pub record IsFrameLine (line : Line) (text : List ℕ) : Type 0 where
  pub named : IsAsker line.asker
  pub fits : line.len ≤ MAX_PAYLOAD
  pub spelled : text ≡ line_text line
