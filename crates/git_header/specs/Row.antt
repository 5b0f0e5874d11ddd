-- Consecutive lines in bytes, and the further headers that they are.
use Rattle.std.specs.Prelude.{◌≡◌, ℕ, List, [], ◌∷◌, map, drop, Option, Some, None, ◌==◌, if◌then◌else◌}
use Rattle.std.specs.List.{flat_map, AllByRecursion}
use Rattle.git_name.specs.declared.kind.Kind.{Kind}
use Rattle.git_header.specs.Header.{HeaderValue, IsHeader, IsPlain, continuing, header_lines}
use Rattle.git_name.specs.Text.{ended, onto_first}

-- the bytes cut after each line feed
unfoldable pub lines_in : List ℕ → List (List ℕ)
lines_in [] = []
lines_in (byte ∷ bytes) = if byte == 10 then [] ∷ lines_in bytes else onto_first byte (lines_in bytes)

-- the values of continuation lines
unfoldable pub more_in : List ℕ → List (List ℕ)
more_in bytes = map (λ line. drop 1 line) (lines_in bytes)

-- the bytes are valid continuation lines
pub record IsMore (bytes : List ℕ) : Type 0 where
  pub each : AllByRecursion IsPlain (more_in bytes)
  pub spelling : bytes ≡ flat_map ended (map continuing (more_in bytes))

-- the name that a text writes, or nothing
abbrev pub name_or_none : Option (List ℕ) → List ℕ
name_or_none None = []
name_or_none (Some name) = name

-- the bytes before the first space, and those after it
abbrev pub before_space : List ℕ → List ℕ
before_space [] = []
before_space (byte ∷ bytes) = if byte == 32 then [] else byte ∷ before_space bytes

abbrev pub behind_space : List ℕ → List ℕ
behind_space [] = []
behind_space (byte ∷ bytes) = if byte == 32 then bytes else behind_space bytes

-- the continuation lines at the start of some lines, and the further headers after them
pub record Gathered : Type 0 where
  pub more : List (List ℕ)
  pub headers : List HeaderValue

abbrev pub one_more : List ℕ → Gathered → Gathered
one_more [] gathered = gathered
one_more (byte ∷ line) gathered =
    if byte == 32 then record { more = line ∷ gathered.more; headers = gathered.headers }
    else record { more = []; headers = record { key = before_space (byte ∷ line); value = behind_space (byte ∷ line); more = gathered.more } ∷ gathered.headers }

unfoldable pub gather : List (List ℕ) → Gathered
gather [] = record { more = []; headers = [] }
gather (line ∷ lines) = one_more line (gather lines)

-- the further headers in lines
unfoldable pub headers_in : List ℕ → List HeaderValue
headers_in bytes = (gather (lines_in bytes)).headers

-- the bytes are lines of further headers
pub record AreHeaders (kind : Kind) (bytes : List ℕ) : Type 0 where
  pub each : AllByRecursion (IsHeader kind) (headers_in bytes)
  pub spelling : bytes ≡ flat_map ended (flat_map header_lines (headers_in bytes))
