-- A text in two parts: the lines of a header, and the message after an empty line (own). Commits and tags share these definitions.
use Rattle.std.specs.Prelude.{ℕ, Bool, true, false, List, [], ◌∷◌, drop, length, get_or, Option, None, Some}
use Rattle.std.specs.List.{flat_map, take_while}
use Rattle.git_name.specs.Name.{name_in}
use Rattle.git_name.specs.Text.{ended}
use Rattle.git_header.specs.Row.{lines_in, name_or_none}

-- whether the line has a byte
abbrev pub holds_some : List ℕ → Bool
holds_some [] = false
holds_some (byte ∷ line) = true

-- the lines before the first empty one
unfoldable pub header_part : List ℕ → List (List ℕ)
header_part text = take_while holds_some (lines_in text)

-- what follows the empty line at the start
abbrev pub behind_end : List ℕ → Option (List ℕ)
behind_end [] = None
behind_end (byte ∷ message) = Some message

-- what follows the first empty line
unfoldable pub message_part : List ℕ → Option (List ℕ)
message_part text = behind_end (drop (length (flat_map ended (header_part text))) text)

-- the line at a place, or an empty one
abbrev pub nth_line : ℕ → List (List ℕ) → List ℕ
nth_line place lines = get_or lines place []

-- the name after a word of this many bytes
abbrev pub name_behind : ℕ → List ℕ → List ℕ
name_behind len line = name_or_none (name_in (drop len line))
