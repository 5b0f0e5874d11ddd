-- Header lines are judged in order, and the first faulty one decides (own). Commits and tags share these definitions.
use Rattle.std.specs.Prelude.{◌≡◌, ◌≢◌, ℕ, List, [], ◌∷◌, ◌++◌}
use Rattle.std.specs.List.{flat_map}
use Rattle.git_name.specs.Text.{Lacks, ended}
use Rattle.git_header.specs.Line.{IsEnding, IsLine}

-- which lines are allowed at each place P of a header, and the faults F of the others
pub record Grammar (P F : Type 0) : Type 1 where
  pub Stands : P → List ℕ → Type 0
  pub Right : P → List ℕ → Type 0
  pub MayEnd : P → Type 0
  pub next : P → List ℕ → P
  pub order : F
  pub unended : F
  pub zero_byte : F
  pub form : P → List ℕ → F

-- the lines are valid from one place, and lead to another
abbrev pub AreRightLines : {P F : Type 0} → Grammar P F → P → List (List ℕ) → P → Type 0
AreRightLines g place [] last = place ≡ last
AreRightLines g place (line ∷ lines) last = g.Right place line × AreRightLines g (g.next place line) lines last

-- the rule that a complete line breaks: a zero byte, a word not allowed at its place, or a wrong form
pub data IsBadLine {P F : Type 0} (g : Grammar P F) (why : F) (place : P) (line : List ℕ) : Type 0 where
  HoldsZero : (Lacks 0 line → ⊥) → why ≡ g.zero_byte → IsBadLine g why place line
  Misplaced : Lacks 0 line → (g.Stands place line → ⊥) → why ≡ g.order → IsBadLine g why place line
  Malformed : Lacks 0 line → g.Stands place line → (g.Right place line → ⊥) → why ≡ g.form place line → IsBadLine g why place line

-- the rule that the next line breaks, or the end of the header
pub data IsBroken {P F : Type 0} (g : Grammar P F) (why : F) (place : P) (rest : List ℕ) : Type 0 where
  Early : IsEnding rest → (g.MayEnd place → ⊥) → why ≡ g.order → IsBroken g why place rest
  Unended : rest ≢ [] → Lacks 10 rest → why ≡ g.unended → IsBroken g why place rest
  Bad : (line after : List ℕ) → IsLine line after rest → IsBadLine g why place line → IsBroken g why place rest

-- a prefix of the text is valid lines, and what comes next breaks this rule
pub record IsFirstFault {P F : Type 0} (g : Grammar P F) (start : P) (why : F) (text : List ℕ) : Type 0 where
  pub lines : List (List ℕ)
  pub place : P
  pub rest : List ℕ
  pub right : AreRightLines g start lines place
  pub parts : text ≡ flat_map ended lines ++ rest
  pub broken : IsBroken g why place rest
