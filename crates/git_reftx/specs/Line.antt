-- Lines of at most 512 bytes (own).
use Rattle.std.specs.Prelude.{ℕ, List, Option, None, Some, length, nat_le, if◌then◌else◌}
use Rattle.git_name.specs.Text.{split_once}
use Rattle.git_reftx.specs.declared.line.TheConstants.{LONGEST}

-- what is at the start of a text
pub data LineAt : Type 0 where
  -- a line, and what follows its LF
  Whole : (line behind : List ℕ) → LineAt
  -- the beginning of a line that may still become valid
  Unfinished : LineAt
  -- 513 bytes without LF
  TooLong : LineAt

abbrev pub within_512 : List ℕ → LineAt → LineAt
within_512 line right = if nat_le (length line) LONGEST then right else TooLong

abbrev pub line_of_parts : List ℕ → Option (List ℕ × List ℕ) → LineAt
line_of_parts text None = within_512 text Unfinished
line_of_parts text (Some (line, behind)) = within_512 line (Whole line behind)

-- the line at the start of a text
unfoldable pub line_at : List ℕ → LineAt
line_at text = line_of_parts text (split_once 10 text)
