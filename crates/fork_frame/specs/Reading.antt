-- What a line takes from a reader's bytes: `old` are the bytes before, `new` those after, if they are known.
use Rattle.std.specs.Prelude.{◌≡◌, ◌≢◌, ℕ, ◌≤◌, ◌⊎◌, All, List, [], ◌∷◌, ◌++◌, length, Option}
use Rattle.std.specs.Io.KnownBytes.{Keeps, Consumes, IsAtEnd}
use Rattle.fork_frame.specs.declared.reader.Taken.{Taken}
use Rattle.fork_frame.specs.declared.reader.Taken.TheVariants.{Line, Nothing, NoLine}
use Rattle.fork_frame.specs.declared.text.TheConstants.{LONGEST}

-- bytes without LF were taken: as many as are searched, or all that there were
pub record TakesNoLine (old new : Option (List ℕ)) : Type 0 where
  pub front : List ℕ
  pub some : 1 ≤ length front
  pub few : length front ≤ LONGEST
  pub plain : All (λ byte. byte ≢ 10) front
  pub taken : Consumes old new front
  pub cut : (length front ≡ LONGEST) ⊎ IsAtEnd new

-- a line and its LF were taken; or the input was at its end; or there is no line
abbrev pub TakesLine : Option (List ℕ) → Option (List ℕ) → Taken → Type 0
TakesLine old new (Line text) = All (λ byte. byte ≢ 10) text × (length text ≤ 40) × Consumes old new (text ++ 10 ∷ [])
TakesLine old new Nothing = Keeps old new × IsAtEnd old
TakesLine old new NoLine = TakesNoLine old new
