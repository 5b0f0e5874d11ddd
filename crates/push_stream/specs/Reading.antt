-- What is known of a stream that continues (own): its commands, what was sent so far without the contents, and its unfinished rest.
use Rattle.std.specs.Prelude.{ℕ, ◌+◌, ◌-◌, Bool, true, false, List, [], ◌∷◌, ◌++◌, length, drop, map, Result, Ok, Err}
use Rattle.git_name.specs.Object.{Object, object_name}
use Rattle.git_reftx.specs.declared.command.Command.{Command}
use Rattle.git_reftx.specs.declared.reading.TheConstants.{MAX_COMMANDS}
use Rattle.push_stream.specs.declared.fault.StreamFault.{StreamFault}
use Rattle.push_stream.specs.declared.fault.StreamFault.TheVariants.{Truncated}
use Rattle.push_stream.specs.declared.sent.Sent.{Sent}
use Rattle.push_stream.specs.Brief.{BriefValue}
use Rattle.push_stream.specs.Stream.{Stream, Flows, Breaks, header_in, records_in, sent_in, stream_of}

-- what is known of an object that was sent
abbrev pub sent_of : Object → Sent
sent_of object = record { name = object_name object; kind = object.kind; length = length object.bytes }

-- the state of a stream
pub data Flow : Type 0 where
  -- its commands, what was sent so far, whether the empty line was read, and the unfinished rest
  Going : (commands : List Command) (sent : List Sent) (headed : Bool) (rest : List ℕ) → Flow
  -- the fault of its first wrong item
  Broken : (fault : StreamFault) → Flow

-- how many bytes were received, and the state of the stream
pub record Reading : Type 0 where
  pub count : ℕ
  pub flow : Flow

-- a stream without the contents of its objects
abbrev pub flow_of : Stream → Flow
flow_of (Flows commands objects headed rest) = Going commands (map sent_of objects) headed rest
flow_of (Breaks fault) = Broken fault

-- what is known of the bytes received
abbrev pub reading_of : List ℕ → Reading
reading_of bytes = record { count = length bytes; flow = flow_of (stream_of bytes) }

-- the unfinished rest
abbrev pub rest_in : Flow → List ℕ
rest_in (Going commands sent headed rest) = rest
rest_in (Broken fault) = []

-- a text that follows this many commands, before or after the empty line
abbrev pub added_in : Bool → ℕ → List ℕ → Stream
added_in true had text = records_in (length text) text
added_in false had text = header_in (MAX_COMMANDS - had) text

-- what a piece adds
abbrev pub added : Flow → List ℕ → Stream
added (Going commands sent headed rest) piece = added_in headed (length commands) (rest ++ piece)
added (Broken fault) piece = Breaks fault

-- the objects that a piece adds; none if the stream breaks
abbrev pub gained : Flow → List ℕ → List Object
gained flow piece = sent_in (added flow piece)

-- a state with these commands and objects before its own
abbrev pub noted : List Command → List Sent → Flow → Flow
noted commands sent (Going others more headed rest) = Going (commands ++ others) (sent ++ more) headed rest
noted commands sent (Broken fault) = Broken fault

-- the state of a stream after what was added
abbrev pub flow_with : Flow → Stream → Flow
flow_with (Going commands sent headed rest) more = noted commands sent (flow_of more)
flow_with (Broken fault) more = Broken fault

-- what is known after one more piece
unfoldable pub read_on : Reading → List ℕ → Reading
read_on reading piece = record { count = reading.count + length piece; flow = flow_with reading.flow (added reading.flow piece) }

-- the objects that bytes hold with this piece after them, and not without; none if the stream breaks
abbrev pub gained_by : List ℕ → List ℕ → List Object
gained_by bytes piece = drop (length (sent_in (stream_of bytes))) (sent_in (stream_of (bytes ++ piece)))

-- the brief of a stream that ends here
abbrev pub finished_flow : Flow → Result BriefValue StreamFault
finished_flow (Going commands sent true []) = Ok (commands, map (λ one. one.name) sent)
finished_flow (Going commands sent true (b ∷ rest)) = Err Truncated
finished_flow (Going commands sent false rest) = Err Truncated
finished_flow (Broken fault) = Err fault
