-- Command lines one after another, to the end of a text (own).
use Rattle.std.specs.Prelude.{ℕ, zero, suc, List, [], ◌∷◌, Option, None, Some, Result, Ok, Err}
use Rattle.git_name.specs.Text.{words_of}
use Rattle.git_reftx.specs.declared.command.Command.{Command}
use Rattle.git_reftx.specs.declared.fault.CommandFault.{CommandFault}
use Rattle.git_reftx.specs.declared.fault.CommandFault.TheVariants.{Syntax, TooMany, Truncated}
use Rattle.git_reftx.specs.Command.{command_of}
use Rattle.git_reftx.specs.Line.{LineAt, Whole, Unfinished, TooLong, line_at}
use Rattle.git_reftx.specs.declared.reading.TheConstants.{MAX_COMMANDS}

-- the command at the start of a text and what follows its line, or what is wrong with the line
abbrev pub command_taken : Option Command → List ℕ → Result (Command × List ℕ) CommandFault
command_taken (Some command) behind = Ok (command, behind)
command_taken None behind = Err Syntax

abbrev pub command_of_line : LineAt → Result (Command × List ℕ) CommandFault
command_of_line (Whole line behind) = command_taken (command_of (words_of line)) behind
command_of_line Unfinished = Err Truncated
command_of_line TooLong = Err Syntax

unfoldable pub command_at : List ℕ → Result (Command × List ℕ) CommandFault
command_at text = command_of_line (line_at text)

-- a command beyond the most that are allowed
abbrev pub past_most : Result (Command × List ℕ) CommandFault → CommandFault
past_most (Ok found) = TooMany
past_most (Err fault) = fault

-- a command put before others
abbrev pub with_command : Command → Result (List Command) CommandFault → Result (List Command) CommandFault
with_command command (Ok commands) = Ok (command ∷ commands)
with_command command (Err fault) = Err fault

abbrev pub and_others : (List ℕ → Result (List Command) CommandFault) → Result (Command × List ℕ) CommandFault → Result (List Command) CommandFault
and_others others (Ok found) = with_command found.0 (others found.1)
and_others others (Err fault) = Err fault

-- the commands of a text with room for this many, or the fault of the first wrong line
abbrev pub commands_in : ℕ → List ℕ → Result (List Command) CommandFault
commands_in room [] = Ok []
commands_in zero (b ∷ bs) = Err (past_most (command_at (b ∷ bs)))
commands_in (suc room) (b ∷ bs) = and_others (commands_in room) (command_at (b ∷ bs))

-- the commands of a transaction's body, at most 256
unfoldable pub commands_of : List ℕ → Result (List Command) CommandFault
commands_of body = commands_in MAX_COMMANDS body
