-- Streams of pushes (own): command lines, an empty line, then records to the end.
use Rattle.std.specs.Prelude.{ℕ, zero, suc, Bool, true, false, ◌==◌, ◌≢◌, List, [], ◌∷◌, ◌++◌, length, Result, Ok, Err, None, if◌then◌else◌}
use Rattle.std.specs.List.{AllByRecursion}
use Rattle.git_name.specs.Object.{Object}
use Rattle.git_object.specs.ObjectIn.{object_in}
use Rattle.git_reftx.specs.declared.command.Command.{Command}
use Rattle.git_reftx.specs.declared.fault.CommandFault.{CommandFault}
use Rattle.git_reftx.specs.declared.fault.CommandFault.TheVariants as command
use Rattle.git_reftx.specs.declared.reading.TheConstants.{MAX_COMMANDS}
use Rattle.git_reftx.specs.Reading.{command_at}
use Rattle.push_stream.specs.declared.fault.StreamFault.{StreamFault}
use Rattle.push_stream.specs.declared.fault.StreamFault.TheVariants.{Syntax, TooMany, Truncated}
use Rattle.push_stream.specs.Record.{RecordAt, Taken, Open, Wrong, record_at}

-- the value of a list of bytes, as far as it goes
pub data Stream : Type 0 where
  -- the commands and objects of its whole lines and records, whether the empty line was read, and the unfinished rest
  Flows : (commands : List Command) (objects : List Object) (headed : Bool) (rest : List ℕ) → Stream
  -- the fault of its first wrong item
  Breaks : (fault : StreamFault) → Stream

-- a stream with these commands and objects before its own
abbrev pub behind : List Command → List Object → Stream → Stream
behind commands objects (Flows others more headed rest) = Flows (commands ++ others) (objects ++ more) headed rest
behind commands objects (Breaks fault) = Breaks fault

-- a record, and then the value of the rest
abbrev pub after_record : List ℕ → (List ℕ → Stream) → RecordAt → Stream
after_record text others (Taken object rest) = behind [] (object ∷ []) (others rest)
after_record text others Open = Flows [] [] true text
after_record text others (Wrong fault) = Breaks fault

-- the records at the start of a text, at most `most`
abbrev pub records_in : ℕ → List ℕ → Stream
records_in zero text = Flows [] [] true text
records_in (suc most) text = after_record text (records_in most) (record_at text)

-- a text without a command at its start: its first line is unfinished, or wrong
abbrev pub no_command : List ℕ → CommandFault → Stream
no_command text command.Syntax = Breaks Syntax
no_command text command.TooMany = Breaks TooMany
no_command text command.Truncated = Flows [] [] false text

-- a command, and then the value of the rest
abbrev pub after_command : List ℕ → (List ℕ → Stream) → Result (Command × List ℕ) CommandFault → Stream
after_command text others (Ok found) = behind (found.0 ∷ []) [] (others found.1)
after_command text others (Err fault) = no_command text fault

-- a stream with room for this many commands; after the empty line each record has at least one byte
abbrev pub header_in : ℕ → List ℕ → Stream
header_in room [] = Flows [] [] false []
header_in zero (b ∷ bs) = if b == 10 then records_in (length bs) bs else after_command (b ∷ bs) (λ rest. Breaks TooMany) (command_at (b ∷ bs))
header_in (suc room) (b ∷ bs) = if b == 10 then records_in (length bs) bs else after_command (b ∷ bs) (header_in room) (command_at (b ∷ bs))

-- the value of a list of bytes: a stream has at most MAX_COMMANDS commands
unfoldable pub stream_of : List ℕ → Stream
stream_of bytes = header_in MAX_COMMANDS bytes

-- a stream that ends here: its commands and objects, if the empty line was read and nothing is left unfinished
abbrev pub finished : Stream → Result (List Command × List Object) StreamFault
finished (Flows commands objects true []) = Ok (commands, objects)
finished (Flows commands objects true (b ∷ rest)) = Err Truncated
finished (Flows commands objects false rest) = Err Truncated
finished (Breaks fault) = Err fault

-- the objects that were sent; none if there is a fault
abbrev pub sent_in : Stream → List Object
sent_in (Flows commands objects headed rest) = objects
sent_in (Breaks fault) = []

-- each is in the grammar of its kind
abbrev pub AreObjects : List Object → Type 0
AreObjects objects = AllByRecursion (λ object. object_in object.kind object.bytes ≢ None) objects
