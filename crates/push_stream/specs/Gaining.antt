-- What is at the start of a text that continues, or why nothing valid is there.
use Rattle.std.specs.Prelude.{◌≡◌, ◌++◌, ◌<◌, ℕ, Bool, true, false, List, [], length, ⊤}
use Rattle.git_reftx.specs.declared.command.Command.{Command}
use Rattle.push_stream.specs.declared.fault.BodyError.{BodyError}
use Rattle.push_stream.specs.declared.fault.BodyError.TheVariants.{Fault, Memory}
use Rattle.push_stream.specs.declared.fault.StreamFault.{StreamFault}
use Rattle.push_stream.specs.declared.fault.StreamFault.TheVariants.{Syntax, TooMany, TooLarge, WrongName, BadObject, Truncated}
use Rattle.push_stream.specs.Record.{RecordAt, Open, Wrong, record_at}
use Rattle.push_stream.specs.Stream.{Stream, Flows, Breaks, header_in, records_in}

-- the only fault is that the text ends too early
abbrev pub is_truncated : StreamFault → Bool
is_truncated Syntax = false
is_truncated TooMany = false
is_truncated (TooLarge name) = false
is_truncated (WrongName name) = false
is_truncated (BadObject name) = false
is_truncated Truncated = true

abbrev pub is_cut : BodyError → Bool
is_cut (Fault fault) = is_truncated fault
is_cut Memory = false

-- the error reports what is wrong with a record; running out of memory reports nothing
abbrev pub TellsWrong : RecordAt → BodyError → Type 0
TellsWrong found (Fault fault) = found ≡ Wrong fault
TellsWrong found Memory = ⊤

-- the error reports where a stream breaks; running out of memory reports nothing
abbrev pub TellsBreak : Stream → BodyError → Type 0
TellsBreak stream (Fault fault) = stream ≡ Breaks fault
TellsBreak stream Memory = ⊤

-- records if the empty line was read, otherwise an unfinished line
abbrev pub headed_by : Bool → List ℕ → Stream
headed_by true left = records_in (length left) left
headed_by false left = Flows [] [] false left

-- a text begins an unfinished record, whatever follows, until there are this many bytes
abbrev pub Awaits : List ℕ → ℕ → Type 0
Awaits text wanted = (more : List ℕ) → length (text ++ more) < wanted → record_at (text ++ more) ≡ Open

-- the text ends in `end`
abbrev pub EndsIn : List ℕ → List ℕ → Type 0
EndsIn end text = (front : List ℕ) × (text ≡ front ++ end)

-- what precedes the rest of a text reads, within this limit, as these commands, and the empty line if it was read
abbrev pub HasFront : ℕ → List ℕ → List Command → Bool → List ℕ → Type 0
HasFront room text commands headed left = (front : List ℕ) × (text ≡ front ++ left) × (header_in room front ≡ Flows commands [] headed [])
