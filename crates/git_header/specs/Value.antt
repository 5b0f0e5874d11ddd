-- Values after the word of a required line: names and idents (own).
use Rattle.std.specs.Prelude.{◌≡◌, ◌⊎◌, ℕ, List, ◌++◌}
use Rattle.hex.specs.Hex.{encode_lower}
use Rattle.git_name.specs.Name.{IsName}
use Rattle.git_header.specs.declared.fault.HeaderFault.{HeaderFault}
use Rattle.git_name.specs.Text.{Lacks}
use Rattle.git_header.specs.Line.{IsLine, IsNoWord}
use Rattle.git_header.specs.Ident.{IdentValue, IsIdent, spelled_ident}

-- the text is the digits of a name
abbrev pub IsNameText : List ℕ → Type 0
IsNameText text = (name : List ℕ) × IsName name × (text ≡ encode_lower name)

-- the text is an ident
abbrev pub IsIdentLine : List ℕ → Type 0
IsIdentLine text = (ident : IdentValue) × IsIdent ident text

-- the line is the word, followed by a valid value
pub record HoldsValue (word : List ℕ) (IsValue : List ℕ → Type 0) (line : List ℕ) : Type 0 where
  pub value : List ℕ
  pub spelling : line ≡ word ++ value
  pub is : IsValue value

-- a line with no zero byte that begins with the word, followed by a wrong value
pub record IsWrong (word : List ℕ) (IsValue : List ℕ → Type 0) (text : List ℕ) : Type 0 where
  pub value : List ℕ
  pub after : List ℕ
  pub is : IsLine (word ++ value) after text
  pub plain : Lacks 0 (word ++ value)
  pub wrong : IsValue value → ⊥

-- why the text does not begin with a line of the word and a valid value
abbrev pub IsNoValue : List ℕ → (List ℕ → Type 0) → HeaderFault → HeaderFault → List ℕ → Type 0
IsNoValue word IsValue form why text = IsNoWord word why text ⊎ ((why ≡ form) × IsWrong word IsValue text)

-- a word and a name
abbrev pub word_and_name : List ℕ → List ℕ → List ℕ
word_and_name word name = word ++ encode_lower name

-- a word and an ident
abbrev pub ident_line : List ℕ → IdentValue → List ℕ
ident_line word ident = word ++ spelled_ident ident
