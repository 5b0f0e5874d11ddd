-- The values of the readers' answers.
use Rattle.std.specs.Prelude.{◌≡◌, ℕ, List, [], ◌∷◌, Option, None, Some, Result, Err, ⊤}
use Rattle.std.specs.Borrow.{Bor}
use Rattle.git_reftx.specs.declared.command.Change.{Change}
use Rattle.git_reftx.specs.declared.command.Command.{Command}
use Rattle.git_reftx.specs.declared.command.Demand.{Demand}
use Rattle.git_reftx.specs.declared.command_line.Names.{Names}
use Rattle.git_reftx.specs.declared.command_line.Names.TheVariants.{Nothing, One, Two}
use Rattle.git_reftx.specs.declared.fault.CommandFault.{CommandFault}
use Rattle.git_reftx.specs.declared.fault.ReadError.{ReadError}
use Rattle.git_reftx.specs.declared.fault.ReadError.TheVariants.{Fault, Memory}
use Rattle.git_reftx.specs.declared.line.Line.{Line}
use Rattle.git_reftx.specs.declared.line.Line.TheVariants.{Whole, Unfinished, TooLong}
use Rattle.git_reftx.specs.Command.{command, command_by}
use Rattle.git_reftx.specs.Line as value

abbrev pub line_shown : Line → value.LineAt
line_shown (Whole line behind) = value.Whole line.now behind.now
line_shown Unfinished = value.Unfinished
line_shown TooLong = value.TooLong

-- the names, at most two
abbrev pub names_shown : Names → List (List ℕ)
names_shown Nothing = []
names_shown (One name) = name ∷ []
names_shown (Two name other) = name ∷ other ∷ []

-- the names, if there are at most two
abbrev pub few : Option (List (List ℕ)) → Option Names
few (Some []) = Some Nothing
few (Some (name ∷ [])) = Some (One name)
few (Some (name ∷ other ∷ [])) = Some (Two name other)
few (Some (name ∷ other ∷ third ∷ names)) = None
few None = None

-- the command that a demand and a change make for a reference
abbrev pub asked_of : List ℕ → Option (Demand × Change) → Option Command
asked_of reference None = None
asked_of reference (Some asked) = Some (command reference asked.0 asked.1)

-- the command that a reference, a demand and a change make
abbrev pub parts_shown : Option (Bor (List ℕ) × Demand × Change) → Option Command
parts_shown None = None
parts_shown (Some parts) = Some (command parts.0.now parts.1 parts.2)

-- the command of a line's words; REF is not empty
abbrev pub command_of_parts : List ℕ → List ℕ → Option (List (List ℕ)) → Option Command
command_of_parts verb [] names = None
command_of_parts verb (b ∷ bs) names = command_by verb (b ∷ bs) names

-- the error reports what is wrong; running out of memory reports nothing
abbrev pub TellsFault : {A : Type 0} → Result A CommandFault → ReadError → Type 0
TellsFault found (Fault fault) = found ≡ Err fault
TellsFault found Memory = ⊤
