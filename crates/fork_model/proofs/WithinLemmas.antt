-- A stream holds no object longer than a host takes, and pieces add none.
use Rattle.std.proofs.Common.{◌≡◌, ℕ, zero, suc, ◌-◌, ◌≤◌, Bool, true, false, cond, eqb, List, [], ◌∷◌, ◌++◌, Option, None, Some, Result, Ok, Err, refl, arith, is_some, length, take, drop, nat_lt}
use Rattle.std.specs.Prelude.{⊤}
use Rattle.std.specs.Str.{bytes_eq}
use Rattle.std.proofs.lemmas.Bool.Decides.{nat_tests}
use Rattle.std.proofs.lemmas.List.{length-take}
use Rattle.git_name.specs.Object.{Object, object_name}
use Rattle.git_name.specs.Text.{words_of}
use Rattle.git_object.specs.ObjectIn.{object_in}
use Rattle.git_reftx.specs.declared.command.Command.{Command}
use Rattle.git_reftx.specs.declared.fault.CommandFault.{CommandFault}
use Rattle.git_reftx.specs.declared.fault.CommandFault.TheVariants as command
use Rattle.git_reftx.specs.declared.reading.TheConstants.{MAX_COMMANDS}
use Rattle.git_reftx.specs.Line.{LineAt, Whole, Unfinished, TooLong, line_at}
use Rattle.git_reftx.specs.Reading.{command_at}
use Rattle.push_stream.specs.declared.fault.StreamFault.TheVariants.{TooMany, TooLarge, Syntax, BadObject}
use Rattle.push_stream.specs.declared.content_limit.TheConstants.{MAX_CONTENT}
use Rattle.push_stream.specs.Record.{PartsAt, Parts, Short, Faulty, RecordAt, Taken, Open, Wrong, content_at, parts_of_content, head_of_words, parts_at, parts_of_head, parts_of_line, record_of_parts, record_at}
use Rattle.push_stream.specs.Spelling.{AreWithin}
use Rattle.push_stream.specs.Stream.{Stream, Flows, Breaks, sent_in, behind, after_record, records_in, after_command, header_in, stream_of}
use Rattle.push_stream.specs.Upload.{UploadValue, continued, stream_with}
use Rattle.fork_model.proofs.ClosedLemmas.{joined}

-- what holds of both branches holds of the test
either : {X : Type 0} (P : X → Type 0) (b : Bool) (x y : X) → P x → P y → P (cond b x y)
either P true x y left right = left
either P false x y left right = right

-- the content of a record's parts, and of a record
abbrev ArePartsWithin : PartsAt → Type 0
ArePartsWithin (Parts head content rest) = length content ≤ MAX_CONTENT
ArePartsWithin Short = ⊤
ArePartsWithin (Faulty fault) = ⊤

abbrev IsRecordWithin : RecordAt → Type 0
IsRecordWithin (Taken object rest) = length object.bytes ≤ MAX_CONTENT
IsRecordWithin Open = ⊤
IsRecordWithin (Wrong fault) = ⊤

ended_within : (head : _) (content rest : List ℕ) → length content ≤ MAX_CONTENT → ArePartsWithin (parts_of_content head content rest)
ended_within head content [] fits = tt
ended_within head content (b ∷ rest) fits = either ArePartsWithin (eqb b 10) (Parts head content rest) (Faulty Syntax) fits tt

front_within : (size : ℕ) (text : List ℕ) → nat_lt MAX_CONTENT size ≡ false → length (take size text) ≤ MAX_CONTENT
front_within size text few = (let fits : size ≤ MAX_CONTENT = grind (arith, nat_tests) in let front = length-take size text in omega arith)

content_within : (head : _) (text : List ℕ) → ArePartsWithin (content_at head text)
content_within head text = by (nat_lt MAX_CONTENT head.size) refl
  where
    by : (b : Bool) → nat_lt MAX_CONTENT head.size ≡ b → ArePartsWithin (cond b (Faulty (TooLarge head.name)) (parts_of_content head (take head.size text) (drop head.size text)))
    by true is = tt
    by false is = ended_within head (take head.size text) (drop head.size text) (front_within head.size text is)

head_within : (o : Option _) (text : List ℕ) → ArePartsWithin (parts_of_head o text)
head_within None text = tt
head_within (Some head) text = content_within head text

line_within : (line : LineAt) → ArePartsWithin (parts_of_line line)
line_within (Whole line rest) = head_within (head_of_words (words_of line)) rest
line_within Unfinished = tt
line_within TooLong = tt

parts_within : (at : PartsAt) → ArePartsWithin at → IsRecordWithin (record_of_parts at)
parts_within (Parts head content rest) fits =
    either IsRecordWithin (bytes_eq (object_name (record { kind = head.kind; bytes = content })) head.name) _ _
    (either IsRecordWithin (is_some (object_in head.kind content)) (Taken (record { kind = head.kind; bytes = content }) rest) (Wrong (BadObject head.name)) fits tt) tt
parts_within Short fits = tt
parts_within (Faulty fault) fits = tt

record_within : (text : List ℕ) → IsRecordWithin (record_at text)
unfolding record_at parts_at
record_within text = parts_within (parts_at text) (line_within (line_at text))

-- objects before a stream
behind_within : (commands : List Command) (objects : List Object) (s : Stream) → AreWithin objects → AreWithin (sent_in s) → AreWithin (sent_in (behind commands objects s))
behind_within commands objects (Flows others more headed rest) are fits = joined (λ object. length object.bytes ≤ MAX_CONTENT) objects more are fits
behind_within commands objects (Breaks fault) are fits = tt

after_record_within : (text : List ℕ) (others : List ℕ → Stream) (at : RecordAt) → ((rest : List ℕ) → AreWithin (sent_in (others rest))) → IsRecordWithin at → AreWithin (sent_in (after_record text others at))
after_record_within text others (Taken object rest) all is = behind_within [] (object ∷ []) (others rest) (is, tt) (all rest)
after_record_within text others Open all is = tt
after_record_within text others (Wrong fault) all is = tt

records_within : (most : ℕ) (text : List ℕ) → AreWithin (sent_in (records_in most text))
records_within zero text = tt
records_within (suc most) text = after_record_within text (records_in most) (record_at text) (λ rest. records_within most rest) (record_within text)

after_command_within : (text : List ℕ) (others : List ℕ → Stream) (at : Result (Command × List ℕ) CommandFault) → ((rest : List ℕ) → AreWithin (sent_in (others rest))) → AreWithin (sent_in (after_command text others at))
after_command_within text others (Ok found) all = behind_within (found.0 ∷ []) [] (others found.1) tt (all found.1)
after_command_within text others (Err command.Syntax) all = tt
after_command_within text others (Err command.TooMany) all = tt
after_command_within text others (Err command.Truncated) all = tt

header_within : (room : ℕ) (text : List ℕ) → AreWithin (sent_in (header_in room text))
header_within room [] = tt
header_within zero (b ∷ bs) = either (λ s. AreWithin (sent_in s)) (eqb b 10) _ _ (records_within (length bs) bs) (after_command_within (b ∷ bs) (λ rest. Breaks TooMany) (command_at (b ∷ bs)) (λ rest. tt))
header_within (suc room) (b ∷ bs) = either (λ s. AreWithin (sent_in s)) (eqb b 10) _ _ (records_within (length bs) bs) (after_command_within (b ∷ bs) (header_in room) (command_at (b ∷ bs)) (λ rest. header_within room rest))

-- what a stream holds
pub stream_within : (bytes : List ℕ) → AreWithin (sent_in (stream_of bytes))
unfolding stream_of
stream_within bytes = header_within MAX_COMMANDS bytes

with_within : (s : Stream) (piece : List ℕ) → AreWithin (sent_in s) → AreWithin (sent_in (stream_with s piece))
with_within (Flows commands objects true rest) piece are = behind_within commands objects (records_in (length (rest ++ piece)) (rest ++ piece)) are (records_within (length (rest ++ piece)) (rest ++ piece))
with_within (Flows commands objects false rest) piece are = behind_within commands objects (header_in (MAX_COMMANDS - length commands) (rest ++ piece)) are (header_within (MAX_COMMANDS - length commands) (rest ++ piece))
with_within (Breaks fault) piece are = tt

-- and what an upload holds after one more piece
pub continued_within : (upload : UploadValue) (piece : List ℕ) → AreWithin (sent_in upload.stream) → AreWithin (sent_in (continued upload piece).stream)
unfolding continued
continued_within upload piece are = with_within upload.stream piece are
