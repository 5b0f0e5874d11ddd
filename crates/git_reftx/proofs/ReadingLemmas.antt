-- Command lines after others that were read before.
use Rattle.std.proofs.Common.{◌≡◌, ℕ, zero, suc, ◌+◌, ◌<◌, ◌≤◌, Bool, true, false, cond, List, [], ◌∷◌, ◌++◌, Option, None, Some, Result, Ok, Err, refl, sym, ap, subst, ◌∙◌, length, length-append, append_assoc, append-nil, arith}
use Rattle.std.specs.Prelude.{nat_le}
use Rattle.git_name.specs.Text.{split_once, words_of}
use Rattle.git_name.proofs.TextLemmas.{split_once-whole}
use Rattle.git_reftx.specs.declared.command.Command.{Command}
use Rattle.git_reftx.specs.declared.fault.CommandFault.{CommandFault}
use Rattle.git_reftx.specs.declared.fault.CommandFault.TheVariants.{TooMany}
use Rattle.git_reftx.specs.Command.{command_of}
use Rattle.git_reftx.specs.Line.{LineAt, Whole, Unfinished, TooLong, line_at, line_of_parts}
use Rattle.git_reftx.specs.Reading.{command_at, command_of_line, command_taken, with_command, and_others, commands_in, commands_of, past_most}
use Rattle.git_reftx.specs.declared.line.TheConstants.{LONGEST}
use Rattle.git_reftx.specs.declared.reading.TheConstants.{MAX_COMMANDS}

either : {X : Type 0} (f : X → ℕ) (n : ℕ) (b : Bool) (x y : X) → f x ≤ n → f y ≤ n → f (cond b x y) ≤ n
either f n true x y left right = left
either f n false x y left right = right

-- the bytes from a line's LF on
abbrev from_line : LineAt → ℕ
from_line (Whole line behind) = suc (length behind)
from_line Unfinished = 0
from_line TooLong = 0

abbrev from_command : Result (Command × List ℕ) CommandFault → ℕ
from_command (Ok found) = suc (length found.1)
from_command (Err fault) = 0

behind_line : (text line behind : List ℕ) → text ≡ line ++ 10 ∷ behind → suc (length behind) ≤ length text
behind_line text line behind is =
    let whole : length text ≡ length line + length (10 ∷ behind) = ap (λ (l : List ℕ). length l) is ∙ length-append line (10 ∷ behind) in
    omega arith

in_line : (text : List ℕ) (o : Option (List ℕ × List ℕ)) → split_once 10 text ≡ o → from_line (line_of_parts text o) ≤ length text
in_line text None is = either from_line (length text) (nat_le (length text) LONGEST) Unfinished TooLong (omega arith) (omega arith)
in_line text (Some (line, behind)) is = either from_line (length text) (nat_le (length line) LONGEST) (Whole line behind) TooLong (behind_line text line behind (split_once-whole 10 text line behind is)) (omega arith)

in_taken : (n : ℕ) (o : Option Command) (behind : List ℕ) → suc (length behind) ≤ n → from_command (command_taken o behind) ≤ n
in_taken n (Some command) behind fits = fits
in_taken n None behind fits = omega arith

in_command : (n : ℕ) (at : LineAt) → from_line at ≤ n → from_command (command_of_line at) ≤ n
in_command n (Whole line behind) fits = in_taken n (command_of (words_of line)) behind fits
in_command n Unfinished fits = omega arith
in_command n TooLong fits = omega arith

within : (text : List ℕ) → from_command (command_at text) ≤ length text
unfolding command_at line_at
within text = in_command (length text) (line_at text) (in_line text (split_once 10 text) refl)

-- what follows a command is shorter
pub command_shorter : (text : List ℕ) (command : Command) (behind : List ℕ) → command_at text ≡ Ok (command, behind) → length behind < length text
command_shorter text command behind is =
    let fits : from_command (Ok (command, behind)) ≤ length text = subst (λ at. from_command at ≤ length text) is (within text) in
    omega arith

-- these commands, and then those of the rest
abbrev pub onto : List Command → Result (List Command) CommandFault → Result (List Command) CommandFault
onto commands (Ok others) = Ok (commands ++ others)
onto commands (Err fault) = Err fault

onto-nil : (found : Result (List Command) CommandFault) → onto [] found ≡ found
onto-nil (Ok others) = refl
onto-nil (Err fault) = refl

pub read_none : (body : List ℕ) → commands_of body ≡ onto [] (commands_in MAX_COMMANDS body)
unfolding commands_of
read_none body = sym (onto-nil (commands_in MAX_COMMANDS body))

onto-with_command : (commands : List Command) (command : Command) (found : Result (List Command) CommandFault) → onto commands (with_command command found) ≡ onto (commands ++ command ∷ []) found
onto-with_command commands command (Ok others) = ap (λ all. Ok all) (sym (append_assoc commands (command ∷ []) others))
onto-with_command commands command (Err fault) = refl

-- a command is read if there is room for one
pub commands_step : (room : ℕ) (rest : List ℕ) → 0 < length rest → commands_in (suc room) rest ≡ and_others (commands_in room) (command_at rest)
commands_step room [] some = absurd (omega arith)
commands_step room (b ∷ bs) some = refl

-- and none is read if there is no room
pub commands_full : (rest : List ℕ) → 0 < length rest → commands_in zero rest ≡ Err (past_most (command_at rest))
commands_full [] some = absurd (omega arith)
commands_full (b ∷ bs) some = refl

-- one more command was read
pub read_more : (whole : Result (List Command) CommandFault) (room : ℕ) (sent more : List Command) (rest behind : List ℕ) (command : Command) → 0 < length rest → length sent + room ≡ MAX_COMMANDS → length sent < MAX_COMMANDS
    → whole ≡ onto sent (commands_in room rest) → command_at rest ≡ Ok (command, behind) → more ≡ sent ++ command ∷ []
    → (left : ℕ) × (length more + left ≡ MAX_COMMANDS) × (whole ≡ onto more (commands_in left behind))
read_more whole zero sent more rest behind command some all few so_far taken grown = absurd (omega arith)
read_more whole (suc room) sent more rest behind command some all few so_far taken grown =
    let longer : length more ≡ length sent + 1 = ap (λ (l : List Command). length l) grown ∙ length-append sent (command ∷ []) in (
      room,
      omega arith,
      so_far ∙ ap (onto sent) (commands_step room rest some ∙ ap (and_others (commands_in room)) taken)
          ∙ onto-with_command sent command (commands_in room behind) ∙ ap (λ commands. onto commands (commands_in room behind)) (sym grown),
    )

-- a line that is no command
pub read_fault : (whole : Result (List Command) CommandFault) (room : ℕ) (sent : List Command) (rest : List ℕ) (fault : CommandFault) → 0 < length rest
    → whole ≡ onto sent (commands_in room rest) → command_at rest ≡ Err fault → whole ≡ Err fault
read_fault whole zero sent rest fault some so_far wrong = so_far ∙ ap (onto sent) (commands_full rest some ∙ ap (λ found. Err (past_most found)) wrong)
read_fault whole (suc room) sent rest fault some so_far wrong = so_far ∙ ap (onto sent) (commands_step room rest some ∙ ap (and_others (commands_in room)) wrong)

-- one command too many
pub read_too_many : (whole : Result (List Command) CommandFault) (room : ℕ) (sent : List Command) (rest behind : List ℕ) (command : Command) → 0 < length rest → length sent + room ≡ MAX_COMMANDS → length sent ≡ MAX_COMMANDS
    → whole ≡ onto sent (commands_in room rest) → command_at rest ≡ Ok (command, behind) → whole ≡ Err TooMany
read_too_many whole zero sent rest behind command some all full so_far taken = so_far ∙ ap (onto sent) (commands_full rest some ∙ ap (λ found. Err (past_most found)) taken)
read_too_many whole (suc room) sent rest behind command some all full so_far taken = absurd (omega arith)

no_bytes : (rest : List ℕ) → length rest ≡ 0 → rest ≡ []
no_bytes [] none = refl
no_bytes (b ∷ rest) none = absurd (omega arith)

none_in : (room : ℕ) → commands_in room [] ≡ Ok []
none_in zero = refl
none_in (suc room) = refl

-- all commands were read
pub read_all : (whole : Result (List Command) CommandFault) (room : ℕ) (sent : List Command) (rest : List ℕ) → whole ≡ onto sent (commands_in room rest) → length rest ≡ 0 → whole ≡ Ok sent
read_all whole room sent rest so_far none =
    so_far ∙ ap (λ r. onto sent (commands_in room r)) (no_bytes rest none) ∙ ap (onto sent) (none_in room) ∙ ap (λ all. Ok all) (append-nil sent)
