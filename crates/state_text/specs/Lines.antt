-- Lines of a text that is read in pieces (own): what was read, what of it was taken in lines, and its hash.
use Rattle.std.specs.Prelude.{◌≡◌, ℕ, ◌+◌, ◌<◌, List, ◌∷◌, ◌++◌, ◌⊎◌, Option, IfSome, drop, length}
use Rattle.std.specs.List.{flat_map}
use Rattle.std.specs.Io.KnownBytes.{Consumes, IsAtEnd}
use Rattle.sha2.specs.Hashers.{Holds256}
use Rattle.sha2.specs.Sha256.{sha256}
use Rattle.git_name.specs.Text.{ended}
use Rattle.state_text.specs.declared.lines.Lines.{Lines}
use Rattle.state_text.specs.declared.lines.TheConstants.{LONGEST_LINE}
use Rattle.state_text.specs.declared.version.Version.{Version}
use Rattle.state_text.specs.Fault.{IsOneLine}
use Rattle.state_text.specs.Taking.{IsRightSoFar, Taken, open_lines}

-- what was read and not taken
abbrev pub rest_of : Lines → List ℕ
rest_of lines = drop lines.at lines.text.items

-- a reader had the bytes `first` and has `now`; of what was read, this was taken
pub record IsTaken (first now : Option (List ℕ)) (lines : Lines) (taken : List ℕ) : Type 0 where
  pub front : List ℕ
  pub consumed : Consumes first now front
  pub hashed : Holds256 lines.hasher front
  pub parts : front ≡ taken ++ rest_of lines

-- more was read behind what was not taken, and hashed
pub record Refills (before after : Option (List ℕ)) (old new : Lines) : Type 0 where
  pub more : List ℕ
  pub consumed : Consumes before after more
  pub hashed : (message : List ℕ) → Holds256 old.hasher message → Holds256 new.hasher (message ++ more)
  pub rest : rest_of new ≡ rest_of old ++ more

-- what was taken stays so
pub record Waits (before after : Option (List ℕ)) (old new : Lines) : Type 0 where
  pub goes_on : (first : Option (List ℕ)) (taken : List ℕ) → IsTaken first before old taken → IsTaken first after new taken

-- the next line was taken
pub record TakesLine (before after : Option (List ℕ)) (old new : Lines) : Type 0 where
  pub goes_on : (first : Option (List ℕ)) (taken : List ℕ) → IsTaken first before old taken → IsTaken first after new (taken ++ ended new.line.items)
  pub is_line : IsOneLine new.line.items

-- no LF is in what was not taken, and nothing follows it or it is too long for a right line
pub record HasNoLine (before after : Option (List ℕ)) (old new : Lines) : Type 0 where
  pub waits : Waits before after old new
  pub is_line : IsOneLine (rest_of new)
  pub why : IsAtEnd after ⊎ (LONGEST_LINE < length (rest_of new))

-- all that the reader had was taken, and this is its SHA-256 (FIPS 180-4, 6.2)
pub record IsWhole (first after : Option (List ℕ)) (taken name : List ℕ) : Type 0 where
  pub consumed : Consumes first after taken
  pub ends : IsAtEnd after
  pub named : name ≡ sha256 taken

pub record EndsAt (before after : Option (List ℕ)) (lines : Lines) (name : List ℕ) : Type 0 where
  pub whole : (first : Option (List ℕ)) (taken : List ℕ) → IsTaken first before lines taken → IsWhole first after taken name

-- bytes follow what was taken
pub record IsBehind (text taken : List ℕ) : Type 0 where
  pub behind : List ℕ
  pub parts : text ≡ taken ++ behind
  pub some : 0 < length behind

pub record GoesBeyond (before : Option (List ℕ)) (lines : Lines) : Type 0 where
  pub more : (first : Option (List ℕ)) (taken : List ℕ) → IsTaken first before lines taken → IfSome first (λ text. IsBehind text taken)

-- the lines of what was read so far were taken, and the next one has this number
pub record IsReadTo (first now : Option (List ℕ)) (lines : Lines) (version : Version) (read : Taken) (number : ℕ) : Type 0 where
  pub taken : IsTaken first now lines (flat_map ended (open_lines version read))
  pub count : number ≡ length (open_lines version read) + 1
  pub right : IsRightSoFar version read
