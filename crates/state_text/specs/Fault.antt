-- The first wrong line of a text that is not a state text (own).
use Rattle.std.specs.Prelude.{◌≡◌, ◌≢◌, ℕ, ◌+◌, All, List, [], ◌∷◌, ◌++◌, ◌⊎◌, length, ⊤}
use Rattle.std.specs.List.{AllByRecursion, flat_map}
use Rattle.state_text.specs.declared.fault.StateFault.{StateFault}
use Rattle.state_text.specs.declared.fault.StateFault.TheVariants.{Line, Read, Memory}
use Rattle.state_text.specs.States.{States}
use Rattle.git_name.specs.Text.{ended}
use Rattle.state_text.specs.Text.{IsStateText}

-- some state text begins with these bytes
pub record BeginsStateText (text : List ℕ) : Type 0 where
  pub states : States
  pub whole : List ℕ
  pub rest : List ℕ
  pub right : IsStateText states whole
  pub parts : whole ≡ text ++ rest

-- bytes without LF
abbrev pub IsOneLine : List ℕ → Type 0
IsOneLine line = All (λ byte. byte ≢ 10) line

-- a complete line comes next, and no state text begins with the text up to its end
pub record HasWrongNext (front rest : List ℕ) : Type 0 where
  pub line : List ℕ
  pub behind : List ℕ
  pub is_line : IsOneLine line
  pub parts : rest ≡ line ++ 10 ∷ behind
  pub begins : ¬ BeginsStateText (front ++ ended line)

-- no complete line comes next, and if the front is a state text, something follows it
pub record IsCut (front rest : List ℕ) : Type 0 where
  pub is_line : IsOneLine rest
  pub more : (states : States) → IsStateText states front → rest ≢ []

-- some state text begins with the lines before this one, and here the text goes wrong
pub record IsWrongLine (text : List ℕ) (number : ℕ) : Type 0 where
  pub before : List (List ℕ)
  pub rest : List ℕ
  pub are_lines : AllByRecursion IsOneLine before
  pub parts : text ≡ flat_map ended before ++ rest
  pub number_is : number ≡ length before + 1
  pub begins : BeginsStateText (flat_map ended before)
  pub wrong : HasWrongNext (flat_map ended before) rest ⊎ IsCut (flat_map ended before) rest

-- a text has at most one first wrong line
abbrev pub OneWrongLine : Type 0
OneWrongLine = (text : List ℕ) (m n : ℕ) → IsWrongLine text m → IsWrongLine text n → m ≡ n

-- and a state text has none
abbrev pub NoneInStateText : Type 0
NoneInStateText = (states : States) (text : List ℕ) (number : ℕ) → IsStateText states text → IsWrongLine text number → ⊥

-- the fault reports the first wrong line; a reader that fails and running out of memory report nothing
abbrev pub TellsLine : List ℕ → StateFault → Type 0
TellsLine text (Line number) = IsWrongLine text number
TellsLine text Read = ⊤
TellsLine text Memory = ⊤
