-- The value of a stream after one more piece is that of all its bytes.
use Rattle.std.proofs.Common.{◌≡◌, ℕ, zero, suc, ◌-◌, ◌<◌, ◌≤◌, Bool, true, false, cond, eqb, List, [], ◌∷◌, ◌++◌, Option, Some, None, Result, Ok, Err, is_ok, OnOk, refl, sym, ap, ap₂, ◌∙◌, length, length-append, append_assoc, append-nil, arith}
use Rattle.std.specs.List.{concat}
use Rattle.git_name.specs.Object.{Object}
use Rattle.git_name.specs.Text.{words_of}
use Rattle.git_reftx.specs.declared.reading.TheConstants.{MAX_COMMANDS}
use Rattle.git_reftx.specs.Command.{command_of}
use Rattle.git_reftx.specs.Line.{LineAt, Whole, Unfinished, TooLong, line_at}
use Rattle.git_reftx.specs.Reading.{command_at, command_of_line, command_taken}
use Rattle.git_reftx.specs.declared.command.Command.{Command}
use Rattle.push_stream.specs.Record.{RecordAt, Taken, Open, Wrong, record_at}
use Rattle.push_stream.specs.Stream.{Stream, Flows, Breaks, behind, after_record, records_in, after_command, header_in, stream_of}
use Rattle.push_stream.specs.Upload.{UploadValue, continued, fed, stream_with, upload_of}
use Rattle.push_stream.proofs.HeaderLemmas.{others_in, step_end, step_line}
use Rattle.push_stream.proofs.LongerLemmas.{line_longer, line_grows, record_longer, record_grows}
use Rattle.push_stream.proofs.RecordLemmas.{record_shorter}
use Rattle.push_stream.proofs.StreamLemmas.{behind-nil, behind-behind, records_in-nil}

-- a stream after one more piece, with room for this many commands
abbrev pub continued_in : ℕ → Stream → List ℕ → Stream
continued_in room (Flows commands objects true rest) piece = behind commands objects (records_in (length (rest ++ piece)) (rest ++ piece))
continued_in room (Flows commands objects false rest) piece = behind commands objects (header_in (room - length commands) (rest ++ piece))
continued_in room (Breaks fault) piece = Breaks fault

-- an object that precedes makes no difference to what a piece adds
object_before : (room : ℕ) (object : Object) (s : Stream) (piece : List ℕ) → continued_in room (behind [] (object ∷ []) s) piece ≡ behind [] (object ∷ []) (continued_in room s piece)
object_before room object (Flows commands objects true rest) piece = sym (behind-behind [] commands (object ∷ []) objects (records_in (length (rest ++ piece)) (rest ++ piece)))
object_before room object (Flows commands objects false rest) piece = sym (behind-behind [] commands (object ∷ []) objects (header_in (room - length commands) (rest ++ piece)))
object_before room object (Breaks fault) piece = refl

-- a command takes one place of the room
less_room : (room n : ℕ) → suc room - suc n ≡ room - n
less_room room n = omega arith

-- nothing precedes
nothing_before : (room : ℕ) (text : List ℕ) → behind [] [] (header_in (room - 0) text) ≡ header_in room text
nothing_before room text =
    let full : room - 0 ≡ room = omega arith in
    behind-nil (header_in (room - 0) text) ∙ ap (λ left. header_in left text) full

-- nor does a command that precedes
command_before : (room : ℕ) (command : Command) (s : Stream) (piece : List ℕ) → continued_in (suc room) (behind (command ∷ []) [] s) piece ≡ behind (command ∷ []) [] (continued_in room s piece)
command_before room command (Flows commands objects true rest) piece = sym (behind-behind (command ∷ []) commands [] objects (records_in (length (rest ++ piece)) (rest ++ piece)))
command_before room command (Flows commands objects false rest) piece =
    ap (λ left. behind (command ∷ commands) objects (header_in left (rest ++ piece))) (less_room room (length commands))
    ∙ sym (behind-behind (command ∷ []) commands [] objects (header_in (room - length commands) (rest ++ piece)))
command_before room command (Breaks fault) piece = refl

-- a text of no bytes is empty
no_bytes : (rest : List ℕ) → length rest ≤ 0 → rest ≡ []
no_bytes [] none = refl
no_bytes (b ∷ rest) none = absurd (omega arith)

-- a bound at least as long as the text cuts nothing off
records_bound : (m n : ℕ) (text : List ℕ) → length text ≤ m → length text ≤ n → records_in m text ≡ records_in n text
records_bound zero n text fits fits_too = ap (records_in zero) (no_bytes text fits) ∙ sym (ap (records_in n) (no_bytes text fits) ∙ records_in-nil n)
records_bound (suc m) zero text fits fits_too = ap (records_in (suc m)) (no_bytes text fits_too) ∙ records_in-nil (suc m) ∙ sym (ap (records_in zero) (no_bytes text fits_too))
records_bound (suc m) (suc n) text fits fits_too = by_record (record_at text) refl (λ rest short shorter. records_bound m n rest short shorter)
  where
    by_record : (at : RecordAt) → record_at text ≡ at → ((rest : List ℕ) → length rest ≤ m → length rest ≤ n → records_in m rest ≡ records_in n rest) → after_record text (records_in m) at ≡ after_record text (records_in n) at
    by_record (Taken object rest) is same =
        let shorter : length rest < length text = record_shorter text object rest is in
        ap (behind [] (object ∷ [])) (same rest (omega arith) (omega arith))
    by_record Open is same = refl
    by_record (Wrong fault) is same = refl

-- the records of the longer text, by the one at its front
records_step : (text : List ℕ) (at : RecordAt) → record_at text ≡ at → records_in (length text) text ≡ after_record text (records_in (length text)) at
records_step text at is = records_bound (length text) (suc (length text)) text (omega arith) (omega arith) ∙ ap (after_record text (records_in (length text))) is

-- records, and a piece after them
records_grow : (room most : ℕ) (text piece : List ℕ) → continued_in room (records_in most text) piece ≡ records_in (length (text ++ piece)) (text ++ piece)
records_grow room zero text piece = behind-nil (records_in (length (text ++ piece)) (text ++ piece))
records_grow room (suc most) text piece = by_record (record_at text) refl (λ rest. records_grow room most rest piece)
  where
    longer : List ℕ
    longer = text ++ piece

    by_record : (at : RecordAt) → record_at text ≡ at → ((rest : List ℕ) → continued_in room (records_in most rest) piece ≡ records_in (length (rest ++ piece)) (rest ++ piece)) → continued_in room (after_record text (records_in most) at) piece ≡ records_in (length (text ++ piece)) (text ++ piece)
    by_record (Taken object rest) is grow =
        let later : record_at (text ++ piece) ≡ Taken object (rest ++ piece) = record_grows text piece ∙ ap (λ at. record_longer piece at (record_at (text ++ piece))) is in
        let shorter : length (rest ++ piece) < length (text ++ piece) = record_shorter (text ++ piece) object (rest ++ piece) later in
        object_before room object (records_in most rest) piece
        ∙ ap (behind [] (object ∷ [])) (grow rest ∙ records_bound (length (rest ++ piece)) (length (text ++ piece)) (rest ++ piece) (omega arith) (omega arith))
        ∙ sym (records_step (text ++ piece) (Taken object (rest ++ piece)) later)
    by_record Open is grow = behind-nil (records_in (length (text ++ piece)) (text ++ piece))
    by_record (Wrong fault) is grow =
        let later : record_at (text ++ piece) ≡ Wrong fault = record_grows text piece ∙ ap (λ at. record_longer piece at (record_at (text ++ piece))) is in
        sym (records_step (text ++ piece) (Wrong fault) later)

-- two texts of records, if the first ends where a record ends
pub records_join : (first second left rest : List ℕ) (objects more all : List Object) → records_in (length first) first ≡ Flows [] objects true left → length left ≡ 0 → records_in (length second) second ≡ Flows [] more true rest → all ≡ objects ++ more
    → records_in (length (first ++ second)) (first ++ second) ≡ Flows [] all true rest
records_join first second [] rest objects more all is none later grown =
    sym (records_grow 0 (length first) first second)
    ∙ ap (λ s. continued_in 0 s second) is
    ∙ ap (behind [] objects) later
    ∙ ap (λ (os : List Object). Flows [] os true rest) (sym grown)
records_join first second (b ∷ bs) rest objects more all is none later grown = absurd (omega arith)

-- the command at the front if it is decided, or else the whole
line_by : (room : ℕ) (text piece : List ℕ) (at later : LineAt) → ((command : Command) (rest : List ℕ) → continued_in room (behind (command ∷ []) [] (others_in room rest)) piece ≡ behind (command ∷ []) [] (others_in room (rest ++ piece)))
    → header_in room (text ++ piece) ≡ after_command (text ++ piece) (others_in room) (command_of_line (line_longer piece at later))
    → continued_in room (after_command text (others_in room) (command_of_line at)) piece ≡ after_command (text ++ piece) (others_in room) (command_of_line (line_longer piece at later))
line_by room text piece (Whole line rest) later grow whole = by_command (command_of (words_of line))
  where
    by_command : (o : Option Command) → continued_in room (after_command text (others_in room) (command_taken o rest)) piece ≡ after_command (text ++ piece) (others_in room) (command_taken o (rest ++ piece))
    by_command (Some command) = grow command rest
    by_command None = refl
line_by room text piece Unfinished later grow whole = nothing_before room (text ++ piece) ∙ whole
line_by room text piece TooLong later grow whole = refl

-- commands, and a piece after the line that comes next
command_grows : (room : ℕ) (text piece : List ℕ) → ((command : Command) (rest : List ℕ) → continued_in room (behind (command ∷ []) [] (others_in room rest)) piece ≡ behind (command ∷ []) [] (others_in room (rest ++ piece)))
    → header_in room (text ++ piece) ≡ after_command (text ++ piece) (others_in room) (command_at (text ++ piece))
    → continued_in room (after_command text (others_in room) (command_at text)) piece ≡ header_in room (text ++ piece)
unfolding command_at
command_grows room text piece grow whole =
    let later = ap (λ at. after_command (text ++ piece) (others_in room) (command_of_line at)) (line_grows text piece) in
    line_by room text piece (line_at text) (line_at (text ++ piece)) grow (whole ∙ later) ∙ sym (whole ∙ later)

-- by the first byte
header_by : (room b : ℕ) (bs piece : List ℕ) (t : Bool) → eqb b 10 ≡ t → ((command : Command) (rest : List ℕ) → continued_in room (behind (command ∷ []) [] (others_in room rest)) piece ≡ behind (command ∷ []) [] (others_in room (rest ++ piece)))
    → continued_in room (header_in room (b ∷ bs)) piece ≡ header_in room (b ∷ (bs ++ piece))
header_by room b bs piece true is grow = ap (λ s. continued_in room s piece) (step_end room b bs is) ∙ records_grow room (length bs) bs piece ∙ sym (step_end room b (bs ++ piece) is)
header_by room b bs piece false is grow = ap (λ s. continued_in room s piece) (step_line room b bs is) ∙ command_grows room (b ∷ bs) piece grow (step_line room b (bs ++ piece) is)

-- a stream, and a piece after it, whatever room there is
pub header_grows : (room : ℕ) (text piece : List ℕ) → continued_in room (header_in room text) piece ≡ header_in room (text ++ piece)
header_grows room [] piece = nothing_before room piece
header_grows zero (b ∷ bs) piece = header_by zero b bs piece (eqb b 10) refl (λ command rest. refl)
header_grows (suc room) (b ∷ bs) piece = header_by (suc room) b bs piece (eqb b 10) refl (λ command rest. command_before room command (header_in room rest) piece ∙ ap (behind (command ∷ []) []) (header_grows room rest piece))

-- a piece, with room for 256 commands
with_is : (s : Stream) (piece : List ℕ) → stream_with s piece ≡ continued_in MAX_COMMANDS s piece
with_is (Flows commands objects true rest) piece = refl
with_is (Flows commands objects false rest) piece = refl
with_is (Breaks fault) piece = refl

-- a whole stream, and a piece after it
pub stream_grows : (bytes piece : List ℕ) → stream_with (stream_of bytes) piece ≡ stream_of (bytes ++ piece)
unfolding stream_of
stream_grows bytes piece = with_is (header_in MAX_COMMANDS bytes) piece ∙ header_grows MAX_COMMANDS bytes piece

-- one more piece
pub piece_joins : (bytes piece : List ℕ) → continued (upload_of bytes) piece ≡ upload_of (bytes ++ piece)
unfolding continued
piece_joins bytes piece = ap₂ (λ n s. record { count = n; stream = s }) (sym (length-append bytes piece)) (stream_grows bytes piece)

-- any pieces
pub pieces_join : (bytes : List ℕ) (pieces : List (List ℕ)) → fed (upload_of bytes) pieces ≡ upload_of (bytes ++ concat pieces)
pieces_join bytes [] = ap upload_of (sym (append-nil bytes))
pieces_join bytes (piece ∷ pieces) =
    ap (λ upload. fed upload pieces) (piece_joins bytes piece) ∙ pieces_join (bytes ++ piece) pieces ∙ ap upload_of (append_assoc bytes piece (concat pieces))

-- an upload whose bytes grew by a piece
pub grown_by : {A E : Type 0} (r : Result A E) (old piece new : List ℕ) (before : UploadValue) → upload_of old ≡ before → new ≡ cond (is_ok r) (old ++ piece) old → OnOk r (upload_of new ≡ continued before piece)
grown_by (Ok done) old piece new before seen grown = ap upload_of grown ∙ sym (piece_joins old piece) ∙ ap (λ upload. continued upload piece) seen
grown_by (Err error) old piece new before seen grown = tt
