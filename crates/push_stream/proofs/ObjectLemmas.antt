-- The objects that a stream holds are valid in the grammars of their kinds, and pieces add no others.
use Rattle.std.proofs.Common.{◌≡◌, ◌≢◌, ℕ, zero, suc, ◌-◌, Bool, true, false, cond, eqb, List, [], ◌∷◌, ◌++◌, Option, None, Some, Result, Ok, Err, refl, is_some, length}
use Rattle.std.specs.Prelude.{⊤}
use Rattle.std.specs.Str.{bytes_eq}
use Rattle.git_name.specs.Object.{Object, object_name}
use Rattle.git_object.specs.Object.{ObjectValue}
use Rattle.git_object.specs.ObjectIn.{object_in}
use Rattle.git_reftx.specs.declared.reading.TheConstants.{MAX_COMMANDS}
use Rattle.git_reftx.specs.declared.command.Command.{Command}
use Rattle.git_reftx.specs.declared.fault.CommandFault.{CommandFault}
use Rattle.git_reftx.specs.declared.fault.CommandFault.TheVariants as command
use Rattle.git_reftx.specs.Reading.{command_at}
use Rattle.push_stream.specs.declared.fault.StreamFault.TheVariants.{TooMany, BadObject}
use Rattle.push_stream.specs.Record.{PartsAt, Parts, Short, Faulty, RecordAt, Taken, Open, Wrong, parts_at, right, record_of_parts, record_at}
use Rattle.push_stream.specs.Stream.{Stream, Flows, Breaks, AreObjects, sent_in, behind, after_record, records_in, after_command, header_in, stream_of}
use Rattle.push_stream.specs.Upload.{UploadValue, continued, stream_with}

-- what was taken is an object of its kind's grammar
abbrev IsRight : RecordAt → Type 0
IsRight (Taken object rest) = object_in object.kind object.bytes ≢ None
IsRight Open = ⊤
IsRight (Wrong fault) = ⊤

-- what holds of both branches holds of the choice
either : {X : Type 0} (P : X → Type 0) (b : Bool) (x y : X) → P x → P y → P (cond b x y)
either P true x y left right = left
either P false x y left right = right

-- a test for an object finds one
found_right : (object : Object) (rest : List ℕ) (other : RecordAt) (o : Option ObjectValue) → object_in object.kind object.bytes ≡ o → IsRight other → IsRight (cond (is_some o) (Taken object rest) other)
found_right object rest other None is right = right
found_right object rest other (Some value) is right = λ none. let no_such : ⊥ = cc (is, none) in no_such

-- a name and a grammar that were looked at
parts_right : (at : PartsAt) → IsRight (record_of_parts at)
parts_right (Parts head content rest) =
    let object : Object = record { kind = head.kind; bytes = content } in
    either IsRight (bytes_eq (object_name object) head.name) _ _ (found_right object rest (Wrong (BadObject head.name)) (object_in head.kind content) refl tt) tt
parts_right Short = tt
parts_right (Faulty fault) = tt

-- a record that is taken is valid
record_right : (text : List ℕ) → IsRight (record_at text)
unfolding record_at
record_right text = parts_right (parts_at text)

-- objects before others
both_right : (objects more : List Object) → AreObjects objects → AreObjects more → AreObjects (objects ++ more)
both_right [] more are others = others
both_right (object ∷ objects) more are others = (are.0, both_right objects more are.1 others)

-- objects before a stream
behind_right : (commands : List Command) (objects : List Object) (s : Stream) → AreObjects objects → AreObjects (sent_in s) → AreObjects (sent_in (behind commands objects s))
behind_right commands objects (Flows others more headed rest) are right = both_right objects more are right
behind_right commands objects (Breaks fault) are right = tt

-- a record before a stream
after_record_right : (text : List ℕ) (others : List ℕ → Stream) (at : RecordAt) → ((rest : List ℕ) → AreObjects (sent_in (others rest))) → IsRight at → AreObjects (sent_in (after_record text others at))
after_record_right text others (Taken object rest) all is = behind_right [] (object ∷ []) (others rest) (is, tt) (all rest)
after_record_right text others Open all is = tt
after_record_right text others (Wrong fault) all is = tt

-- records hold objects
records_right : (most : ℕ) (text : List ℕ) → AreObjects (sent_in (records_in most text))
records_right zero text = tt
records_right (suc most) text = after_record_right text (records_in most) (record_at text) (λ rest. records_right most rest) (record_right text)

-- a command before a stream holds no object
after_command_right : (text : List ℕ) (others : List ℕ → Stream) (at : Result (Command × List ℕ) CommandFault) → ((rest : List ℕ) → AreObjects (sent_in (others rest))) → AreObjects (sent_in (after_command text others at))
after_command_right text others (Ok found) all = behind_right (found.0 ∷ []) [] (others found.1) tt (all found.1)
after_command_right text others (Err command.Syntax) all = tt
after_command_right text others (Err command.TooMany) all = tt
after_command_right text others (Err command.Truncated) all = tt

-- a stream holds objects, whatever room there is
header_right : (room : ℕ) (text : List ℕ) → AreObjects (sent_in (header_in room text))
header_right room [] = tt
header_right zero (b ∷ bs) = either (λ s. AreObjects (sent_in s)) (eqb b 10) _ _ (records_right (length bs) bs) (after_command_right (b ∷ bs) (λ rest. Breaks TooMany) (command_at (b ∷ bs)) (λ rest. tt))
header_right (suc room) (b ∷ bs) = either (λ s. AreObjects (sent_in s)) (eqb b 10) _ _ (records_right (length bs) bs) (after_command_right (b ∷ bs) (header_in room) (command_at (b ∷ bs)) (λ rest. header_right room rest))

-- what a stream holds is objects
pub stream_right : (bytes : List ℕ) → AreObjects (sent_in (stream_of bytes))
unfolding stream_of
stream_right bytes = header_right MAX_COMMANDS bytes

-- a piece adds only objects
with_right : (s : Stream) (piece : List ℕ) → AreObjects (sent_in s) → AreObjects (sent_in (stream_with s piece))
with_right (Flows commands objects true rest) piece are = behind_right commands objects (records_in (length (rest ++ piece)) (rest ++ piece)) are (records_right (length (rest ++ piece)) (rest ++ piece))
with_right (Flows commands objects false rest) piece are = behind_right commands objects (header_in (MAX_COMMANDS - length commands) (rest ++ piece)) are (header_right (MAX_COMMANDS - length commands) (rest ++ piece))
with_right (Breaks fault) piece are = tt

-- and so it does to an upload
pub continued_right : (upload : UploadValue) (piece : List ℕ) → AreObjects (sent_in upload.stream) → AreObjects (sent_in (continued upload piece).stream)
unfolding continued
continued_right upload piece are = with_right upload.stream piece are
