-- What a stream holds is no longer than a host takes.
use Rattle.std.proofs.Common.{ℕ, zero, suc, Bool, true, false, cond, eqb, List, [], ◌∷◌, ◌++◌, Result, Ok, Err, length}
use Rattle.git_name.specs.Object.{Object}
use Rattle.git_reftx.specs.declared.command.Command.{Command}
use Rattle.git_reftx.specs.declared.fault.CommandFault.{CommandFault}
use Rattle.git_reftx.specs.declared.fault.CommandFault.TheVariants as command
use Rattle.git_reftx.specs.declared.reading.TheConstants.{MAX_COMMANDS}
use Rattle.git_reftx.specs.Reading.{command_at}
use Rattle.push_stream.specs.declared.fault.StreamFault.TheVariants.{TooMany}
use Rattle.push_stream.specs.Record.{RecordAt, Taken, Open, Wrong, record_at}
use Rattle.push_stream.specs.Spelling.{AreWithin}
use Rattle.push_stream.specs.Stream.{Stream, Flows, Breaks, after_command, after_record, behind, header_in, records_in, sent_in, stream_of}
use Rattle.push_stream.proofs.SpellingLemmas.{IsRecordOf, record_is}

-- objects before others
both_within : (objects more : List Object) → AreWithin objects → AreWithin more → AreWithin (objects ++ more)
both_within [] more are others = others
both_within (object ∷ objects) more are others = (are.0, both_within objects more are.1 others)

-- objects before a stream
behind_within : (commands : List Command) (objects : List Object) (s : Stream) → AreWithin objects → AreWithin (sent_in s) → AreWithin (sent_in (behind commands objects s))
behind_within commands objects (Flows others more headed rest) are within = both_within objects more are within
behind_within commands objects (Breaks fault) are within = tt

-- a record before a stream
after_record_within : (text : List ℕ) (others : List ℕ → Stream) (at : RecordAt) → IsRecordOf text at → ((rest : List ℕ) → AreWithin (sent_in (others rest))) → AreWithin (sent_in (after_record text others at))
after_record_within text others (Taken object rest) is all = behind_within [] (object ∷ []) (others rest) (is.1, tt) (all rest)
after_record_within text others Open is all = tt
after_record_within text others (Wrong fault) is all = tt

-- records hold no longer objects
records_within : (most : ℕ) (text : List ℕ) → AreWithin (sent_in (records_in most text))
records_within zero text = tt
records_within (suc most) text = after_record_within text (records_in most) (record_at text) (record_is text) (λ rest. records_within most rest)

-- a command before a stream holds no object
after_command_within : (text : List ℕ) (others : List ℕ → Stream) (at : Result (Command × List ℕ) CommandFault) → ((rest : List ℕ) → AreWithin (sent_in (others rest))) → AreWithin (sent_in (after_command text others at))
after_command_within text others (Ok found) all = behind_within (found.0 ∷ []) [] (others found.1) tt (all found.1)
after_command_within text others (Err command.Syntax) all = tt
after_command_within text others (Err command.TooMany) all = tt
after_command_within text others (Err command.Truncated) all = tt

-- what holds of both branches holds of the choice
either : (b : Bool) (x y : Stream) → AreWithin (sent_in x) → AreWithin (sent_in y) → AreWithin (sent_in (cond b x y))
either true x y left right = left
either false x y left right = right

-- a stream holds no longer objects, whatever room there is
header_within : (room : ℕ) (text : List ℕ) → AreWithin (sent_in (header_in room text))
header_within room [] = tt
header_within zero (b ∷ bs) = either (eqb b 10) _ _ (records_within (length bs) bs) (after_command_within (b ∷ bs) (λ rest. Breaks TooMany) (command_at (b ∷ bs)) (λ rest. tt))
header_within (suc room) (b ∷ bs) = either (eqb b 10) _ _ (records_within (length bs) bs) (after_command_within (b ∷ bs) (header_in room) (command_at (b ∷ bs)) (λ rest. header_within room rest))

-- what a stream holds is no longer than a host takes
pub stream_within : (bytes : List ℕ) → AreWithin (sent_in (stream_of bytes))
unfolding stream_of
stream_within bytes = header_within MAX_COMMANDS bytes
