-- Bytes that open an upload again (own): the text of its header, the records of what was sent, a tail, and zero bytes for what is missing.
use Rattle.std.specs.Prelude.{ℕ, ◌≡◌, ◌≤◌, ◌+◌, Bool, false, List, [], ◌∷◌, ◌++◌, length, decimal, sum_by}
use Rattle.hex.specs.Hex.{encode_lower}
use Rattle.git_name.specs.Kind.{type_word}
use Rattle.git_reftx.specs.declared.command.Command.{Command}
use Rattle.push_stream.specs.declared.again.TheConstants.{MAX_HEADER}
use Rattle.push_stream.specs.declared.fault.StreamFault.{StreamFault}
use Rattle.push_stream.specs.declared.sent.Sent.{Sent}
use Rattle.push_stream.specs.Reading.{Flow, Going, Broken, Reading, added_in}
use Rattle.push_stream.specs.Stream.{Flows, Breaks, stream_of}

-- what was sent so far; none if the stream is broken
abbrev pub told_in : Flow → List Sent
told_in (Going commands sent headed rest) = sent
told_in (Broken fault) = []

-- the line of the record of a sent object, without its LF
abbrev pub line_of_sent : Sent → List ℕ
line_of_sent one = encode_lower one.name ++ 32 ∷ type_word one.kind ++ 32 ∷ decimal one.length

-- how many bytes the record has: the line, the content, and two LF
abbrev pub record_size : Sent → ℕ
record_size one = length (line_of_sent one) + one.length + 2

-- how many bytes the records of sent objects have
abbrev pub records_size : List Sent → ℕ
records_size sent = sum_by record_size sent

-- the text of a header, what follows the records, and what is known of the stream
pub record Opening : Type 0 where
  pub header : List ℕ
  pub tail : List ℕ
  pub reading : Reading

-- a header and a tail that lead a stream of this many bytes to this state
pub record OpensGoing (header tail : List ℕ) (count : ℕ) (commands : List Command) (sent : List Sent) (headed : Bool) (rest : List ℕ) : Type 0 where
  -- the header holds the commands, and the empty line if it was read
  pub asks : stream_of header ≡ Flows commands [] headed []
  -- nothing in the rest is complete
  pub waits : added_in headed (length commands) rest ≡ Flows [] [] headed rest
  -- nothing was sent before the empty line
  pub bare : headed ≡ false → sent ≡ []
  pub left : tail ≡ rest
  pub counted : length header + (records_size sent + length rest) ≡ count

-- a header and a tail, together of at most this many bytes, that break a stream with this fault
pub record OpensBroken (header tail : List ℕ) (count : ℕ) (fault : StreamFault) : Type 0 where
  pub breaks : stream_of (header ++ tail) ≡ Breaks fault
  pub short : length header ≤ MAX_HEADER
  pub within : length header + length tail ≤ count

-- a header and a tail that lead a stream of this many bytes to this state
abbrev pub OpensAs : List ℕ → List ℕ → ℕ → Flow → Type 0
OpensAs header tail count (Going commands sent headed rest) = OpensGoing header tail count commands sent headed rest
OpensAs header tail count (Broken fault) = OpensBroken header tail count fault

-- what is known of the stream can be recovered from the header, the records and the tail
abbrev pub Opens : Opening → Type 0
Opens opening = OpensAs opening.header opening.tail opening.reading.count opening.reading.flow
