-- The header of a stream is short.
use Rattle.std.proofs.Common.{◌≡◌, ℕ, zero, suc, ◌+◌, ◌*◌, ◌≤◌, Bool, true, false, cond, eqb, List, [], ◌∷◌, Option, None, Some, Result, Ok, Err, refl, ap, subst, ◌∙◌, length, length-append, arith}
use Rattle.std.specs.Prelude.{⊤}
use Rattle.git_name.specs.Object.{Object}
use Rattle.git_name.specs.Text.{words_of}
use Rattle.git_reftx.specs.Command.{command_of}
use Rattle.git_reftx.specs.declared.command.Command.{Command}
use Rattle.git_reftx.specs.declared.fault.CommandFault.{CommandFault}
use Rattle.git_reftx.specs.declared.fault.CommandFault.TheVariants as command
use Rattle.git_reftx.specs.declared.reading.TheConstants.{MAX_COMMANDS}
use Rattle.git_reftx.specs.Line.{LineAt, Whole, Unfinished, TooLong, line_at}
use Rattle.git_reftx.specs.Reading.{command_at, command_of_line, command_taken}
use Rattle.push_stream.specs.declared.again.TheConstants.{MAX_HEADER}
use Rattle.push_stream.specs.declared.fault.StreamFault.TheVariants.{TooMany}
use Rattle.push_stream.specs.Record.{RecordAt, Taken, Open, Wrong, record_at}
use Rattle.push_stream.specs.Stream.{Stream, Flows, Breaks, behind, after_record, records_in, after_command, header_in, stream_of}
use Rattle.push_stream.proofs.LineLemmas.{IsLineOf, line_is}

-- the line of a command is short
line_long : (text : List ℕ) (at : LineAt) (found : Command × List ℕ) → IsLineOf text at → command_of_line at ≡ Ok found → length text ≤ length found.1 + 513
line_long text (Whole line rest) found is told = by (command_of (words_of line)) told
  where
    by : (o : Option Command) → command_taken o rest ≡ Ok found → length text ≤ length found.1 + 513
    by None front = (let differs : ⊥ = cc in absurd differs)
    by (Some one) front =
        let same : (one, rest) ≡ found = cc in
        let behind_it : length rest ≡ length found.1 = ap (λ (p : Command × List ℕ). length p.1) same in
        let all : length text ≡ length line + suc (length rest) = ap (λ (l : List ℕ). length l) is.0 ∙ length-append line (10 ∷ rest) in
        let few : length line ≤ 512 = is.2 in
        omega arith
line_long text Unfinished found is told = (let differs : ⊥ = cc in absurd differs)
line_long text TooLong found is told = (let differs : ⊥ = cc in absurd differs)

-- so a command takes few bytes
command_long : (text : List ℕ) (found : Command × List ℕ) → command_at text ≡ Ok found → length text ≤ length found.1 + 513
unfolding command_at
command_long text found is = line_long text (line_at text) found (line_is text) is

-- a text that is a header, without objects and with nothing left, is no longer than that
abbrev IsHeaderWithin : ℕ → ℕ → Stream → Type 0
IsHeaderWithin most n (Flows commands [] headed []) = n ≤ most
IsHeaderWithin most n (Flows commands [] headed (b ∷ rest)) = ⊤
IsHeaderWithin most n (Flows commands (object ∷ objects) headed rest) = ⊤
IsHeaderWithin most n (Breaks fault) = ⊤

-- a text that is left whole
left_within : (most : ℕ) (text : List ℕ) (commands : List Command) (headed : Bool) → IsHeaderWithin most (length text) (Flows commands [] headed text)
left_within most [] commands headed = omega arith
left_within most (b ∷ bs) commands headed = tt

-- more bytes, and a wider bound
more_within : (m n k l : ℕ) (s : Stream) → IsHeaderWithin m n s → (n ≤ m → l ≤ k) → IsHeaderWithin k l s
more_within m n k l (Flows commands [] headed []) within more = more within
more_within m n k l (Flows commands [] headed (b ∷ rest)) within more = tt
more_within m n k l (Flows commands (object ∷ objects) headed rest) within more = tt
more_within m n k l (Breaks fault) within more = tt

-- one more command before it
command_within : (m n : ℕ) (command : Command) (s : Stream) → IsHeaderWithin m n s → IsHeaderWithin m n (behind (command ∷ []) [] s)
command_within m n command (Flows commands [] headed []) within = within
command_within m n command (Flows commands [] headed (b ∷ rest)) within = tt
command_within m n command (Flows commands (object ∷ objects) headed rest) within = tt
command_within m n command (Breaks fault) within = tt

-- an object makes it no header
object_within : (m n : ℕ) (object : Object) (s : Stream) → IsHeaderWithin m n (behind [] (object ∷ []) s)
object_within m n object (Flows commands objects headed rest) = tt
object_within m n object (Breaks fault) = tt

-- records are no header
records_within : (most : ℕ) (text : List ℕ) → IsHeaderWithin 0 (length text) (records_in most text)
records_within zero text = left_within 0 text [] true
records_within (suc most) text = by (record_at text)
  where
    by : (at : RecordAt) → IsHeaderWithin 0 (length text) (after_record text (records_in most) at)
    by (Taken object rest) = object_within 0 (length text) object (records_in most rest)
    by Open = left_within 0 text [] true
    by (Wrong fault) = tt

-- what holds of both branches holds of the choice
either : {X : Type 0} (P : X → Type 0) (b : Bool) (x y : X) → P x → P y → P (cond b x y)
either P true x y left right = left
either P false x y left right = right

-- nothing follows an empty line
empty_line : (room : ℕ) (bs : List ℕ) → IsHeaderWithin (513 * room + 1) (suc (length bs)) (records_in (length bs) bs)
empty_line room bs = more_within 0 (length bs) (513 * room + 1) (suc (length bs)) (records_in (length bs) bs) (records_within (length bs) bs) (λ none. omega arith)

-- or one more line
line_within : (room : ℕ) (text : List ℕ) (others : List ℕ → Stream) (at : Result (Command × List ℕ) CommandFault) → command_at text ≡ at → ((rest : List ℕ) → IsHeaderWithin (513 * room + 1) (length rest) (others rest))
    → IsHeaderWithin (513 * suc room + 1) (length text) (after_command text others at)
line_within room text others (Ok found) is within =
    let long : length text ≤ length found.1 + 513 = command_long text found is in
    command_within (513 * suc room + 1) (length text) found.0 (others found.1)
    (more_within (513 * room + 1) (length found.1) (513 * suc room + 1) (length text) (others found.1) (within found.1) (λ few. omega arith))
line_within room text others (Err command.Syntax) is within = tt
line_within room text others (Err command.TooMany) is within = tt
line_within room text others (Err command.Truncated) is within = left_within (513 * suc room + 1) text [] false

-- without room for a command
full_within : (text : List ℕ) (at : Result (Command × List ℕ) CommandFault) → IsHeaderWithin (513 * 0 + 1) (length text) (after_command text (λ rest. Breaks TooMany) at)
full_within text (Ok found) = tt
full_within text (Err command.Syntax) = tt
full_within text (Err command.TooMany) = tt
full_within text (Err command.Truncated) = left_within (513 * 0 + 1) text [] false

-- a header with room for this many commands
header_within : (room : ℕ) (text : List ℕ) → IsHeaderWithin (513 * room + 1) (length text) (header_in room text)
header_within room [] = omega arith
header_within zero (b ∷ bs) = either (IsHeaderWithin (513 * 0 + 1) (suc (length bs))) (eqb b 10) _ _ (empty_line 0 bs) (full_within (b ∷ bs) (command_at (b ∷ bs)))
header_within (suc room) (b ∷ bs) =
    either (IsHeaderWithin (513 * suc room + 1) (suc (length bs))) (eqb b 10) _ _ (empty_line (suc room) bs) (line_within room (b ∷ bs) (header_in room) (command_at (b ∷ bs)) refl (λ rest. header_within room rest))

-- a header is short
pub header_short : (header : List ℕ) (commands : List Command) (headed : Bool) → stream_of header ≡ Flows commands [] headed [] → length header ≤ MAX_HEADER
unfolding stream_of
header_short header commands headed is =
    let within : length header ≤ 513 * MAX_COMMANDS + 1 = subst (IsHeaderWithin (513 * MAX_COMMANDS + 1) (length header)) is (header_within MAX_COMMANDS header) in
    omega arith
