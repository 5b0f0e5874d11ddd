-- Lines of a header: bytes without a line feed, then a line feed (own: no zero byte in them).
use Rattle.std.specs.Prelude.{◌≡◌, ◌≢◌, ◌⊎◌, ℕ, List, [], ◌∷◌, ◌++◌, Option, None, Some}
use Rattle.git_name.specs.Text.{Begins, Lacks}
use Rattle.git_header.specs.declared.fault.HeaderFault.{HeaderFault}
use Rattle.git_header.specs.declared.fault.HeaderFault.TheVariants as fault

-- what may come after the lines of a header: nothing, or an empty line and a message
abbrev pub ending : Option (List ℕ) → List ℕ
ending None = []
ending (Some message) = 10 ∷ message

-- the header ends here
abbrev pub IsEnding : List ℕ → Type 0
IsEnding text = (message : Option (List ℕ)) × (text ≡ ending message)

-- the text begins with the line, which is not empty, and continues after its line feed
pub record IsLine (line after text : List ℕ) : Type 0 where
  pub parts : text ≡ line ++ 10 ∷ after
  pub no_end : Lacks 10 line
  pub some : line ≢ []

-- why the text begins with no valid line, whichever lines are allowed
abbrev pub IsNoLine : HeaderFault → List ℕ → Type 0
IsNoLine fault.HeaderOrder text = IsEnding text
IsNoLine fault.HeaderLine text = (text ≢ []) × Lacks 10 text
IsNoLine fault.ZeroByte text = (line : List ℕ) × (after : List ℕ) × IsLine line after text × (Lacks 0 line → ⊥)
IsNoLine fault.Name text = ⊥
IsNoLine fault.Ident text = ⊥

-- a line with no zero byte that does not begin with the word
pub record IsOther (word text : List ℕ) : Type 0 where
  pub line : List ℕ
  pub after : List ℕ
  pub is : IsLine line after text
  pub plain : Lacks 0 line
  pub other : Begins word line → ⊥

-- why the text begins with no line that begins with the word
abbrev pub IsNoWord : List ℕ → HeaderFault → List ℕ → Type 0
IsNoWord word why text = IsNoLine why text ⊎ ((why ≡ fault.HeaderOrder) × IsOther word text)
