-- The complete commands and records of a text that continues.
use Rattle.std.proofs.Common.{◌≡◌, ◌≢◌, ℕ, zero, suc, ◌+◌, ◌<◌, ◌≤◌, Bool, true, false, cond, eqb, List, [], ◌∷◌, ◌++◌, Option, Some, None, Ok, Err, refl, sym, ap, ◌∙◌, is_some, take, drop, length, length-append, append-nil, arith}
use Rattle.std.specs.Prelude.{nat_lt, ⊤}
use Rattle.std.specs.Str.{bytes_eq}
use Rattle.git_name.specs.Object.{Object, object_name}
use Rattle.git_name.specs.Text.{words_of}
use Rattle.git_object.specs.ObjectIn.{object_in}
use Rattle.git_reftx.specs.declared.command.Command.{Command}
use Rattle.git_reftx.specs.declared.fault.CommandFault.TheVariants as command
use Rattle.git_reftx.specs.Line.{LineAt, Whole, Unfinished, TooLong, line_at}
use Rattle.git_reftx.specs.Reading.{command_at}
use Rattle.push_stream.specs.declared.fault.BodyError.{BodyError}
use Rattle.push_stream.specs.declared.fault.BodyError.TheVariants.{Fault, Memory}
use Rattle.push_stream.specs.declared.fault.StreamFault.TheVariants.{TooMany, BadObject}
use Rattle.push_stream.specs.declared.record.Head.{Head}
use Rattle.push_stream.specs.declared.content_limit.TheConstants.{MAX_CONTENT}
use Rattle.push_stream.specs.Gaining.{TellsBreak, TellsWrong, headed_by, is_cut, is_truncated}
use Rattle.push_stream.specs.Record.{PartsAt, Parts, Short, Faulty, RecordAt, Taken, Open, Wrong, parts_at, parts_of_line, parts_of_head, parts_of_content, head_of_words, record_at, record_of_parts}
use Rattle.push_stream.specs.Shown.{TellsRecord}
use Rattle.push_stream.specs.Stream.{Stream, Flows, Breaks, behind, after_record, records_in, after_command, header_in}
use Rattle.push_stream.proofs.HeaderLemmas.{others_in, step_end, header_step}
use Rattle.push_stream.proofs.StreamLemmas.{behind-nil, behind-behind}

-- what holds of both branches holds of the choice
either : {X : Type 0} (P : X → Type 0) (b : Bool) (x y : X) → P x → P y → P (cond b x y)
either P true x y left right = left
either P false x y left right = right

-- no wrong part is one that only ends too early
abbrev ArePartsApart : PartsAt → Type 0
ArePartsApart (Parts head content behind) = ⊤
ArePartsApart Short = ⊤
ArePartsApart (Faulty fault) = is_truncated fault ≡ false

-- and no wrong record
abbrev IsApart : RecordAt → Type 0
IsApart (Taken object behind) = ⊤
IsApart Open = ⊤
IsApart (Wrong fault) = is_truncated fault ≡ false

ended_apart : (head : Head) (content text : List ℕ) → ArePartsApart (parts_of_content head content text)
ended_apart head content [] = tt
ended_apart head content (b ∷ behind) = either ArePartsApart (eqb b 10) _ _ tt refl

head_apart : (o : Option Head) (text : List ℕ) → ArePartsApart (parts_of_head o text)
head_apart None text = refl
head_apart (Some head) text = either ArePartsApart (nat_lt MAX_CONTENT head.size) _ _ refl (ended_apart head (take head.size text) (drop head.size text))

line_apart : (at : LineAt) → ArePartsApart (parts_of_line at)
line_apart (Whole line behind) = head_apart (head_of_words (words_of line)) behind
line_apart Unfinished = tt
line_apart TooLong = refl

parts_apart : (at : PartsAt) → ArePartsApart at → IsApart (record_of_parts at)
parts_apart (Parts head content behind) apart =
    let object : Object = record { kind = head.kind; bytes = content } in
    either IsApart (bytes_eq (object_name object) head.name) _ _ (either IsApart (is_some (object_in head.kind content)) (Taken object behind) (Wrong (BadObject head.name)) tt refl) refl
parts_apart Short apart = tt
parts_apart (Faulty fault) apart = apart

record_apart : (text : List ℕ) → IsApart (record_at text)
unfolding record_at parts_at
record_apart text = parts_apart (parts_at text) (line_apart (line_at text))

-- a record whose text only ends too early is open
open_by : (at : RecordAt) (error : BodyError) → IsApart at → TellsRecord at error → is_cut error ≡ true → at ≡ Open
open_by (Taken object behind) (Fault fault) apart told cut = absurd (cc)
open_by Open (Fault fault) apart told cut = refl
open_by (Wrong why) (Fault fault) apart told cut = (let same : why ≡ fault = cc in let differs : ⊥ = cc in absurd differs)
open_by (Taken object behind) Memory apart told cut = (let differs : ⊥ = cc in absurd differs)
open_by Open Memory apart told cut = refl
open_by (Wrong why) Memory apart told cut = (let differs : ⊥ = cc in absurd differs)

pub cut_open : (text : List ℕ) (error : BodyError) → TellsRecord (record_at text) error → is_cut error ≡ true → record_at text ≡ Open
cut_open text error told cut = open_by (record_at text) error (record_apart text) told cut

-- any other record that is reported is wrong
pub not_cut : (at : RecordAt) (error : BodyError) → TellsRecord at error → is_cut error ≡ false → TellsWrong at error
not_cut (Taken object behind) (Fault fault) told whole = absurd (cc)
not_cut Open (Fault fault) told whole = (let differs : ⊥ = cc in absurd differs)
not_cut (Wrong why) (Fault fault) told whole = (let same : why ≡ fault = cc in ap Wrong same)
not_cut (Taken object behind) Memory told whole = tt
not_cut Open Memory told whole = tt
not_cut (Wrong why) Memory told whole = tt

-- an empty text is an open record
pub nothing_open : (text : List ℕ) → length text ≡ 0 → record_at text ≡ Open
unfolding record_at parts_at line_at
nothing_open [] none = refl
nothing_open (b ∷ bs) none = absurd (omega arith)

-- objects were taken up to an open record
pub open_in : (most : ℕ) (text : List ℕ) → record_at text ≡ Open → records_in most text ≡ Flows [] [] true text
open_in zero text is = refl
open_in (suc most) text is = ap (after_record text (records_in most)) is

pub taken_open : (whole : Stream) (most : ℕ) (sent : List Object) (rest : List ℕ) → whole ≡ behind [] sent (records_in most rest) → record_at rest ≡ Open → whole ≡ Flows [] sent true rest
taken_open whole most sent rest so_far is =
    so_far ∙ ap (behind [] sent) (open_in most rest is) ∙ ap (λ objects. Flows [] objects true rest) (append-nil sent)

-- a wrong record breaks the stream
breaks_at : (text : List ℕ) (others : List ℕ → Stream) (sent : List Object) (error : BodyError) (at : RecordAt) → TellsWrong at error → TellsBreak (behind [] sent (after_record text others at)) error
breaks_at text others sent (Fault fault) at told = ap (λ found. behind [] sent (after_record text others found)) told
breaks_at text others sent Memory at told = tt

same_break : (s t : Stream) (error : BodyError) → s ≡ t → TellsBreak t error → TellsBreak s error
same_break s t (Fault fault) is told = is ∙ told
same_break s t Memory is told = tt

pub breaks_record : (whole : Stream) (most : ℕ) (sent : List Object) (rest : List ℕ) (error : BodyError) → 0 < length rest → length rest ≤ most → whole ≡ behind [] sent (records_in most rest) → TellsWrong (record_at rest) error → TellsBreak whole error
breaks_record whole zero sent rest error some fits so_far told = absurd (omega arith)
breaks_record whole (suc most) sent rest error some fits so_far told =
    same_break whole _ error so_far (breaks_at rest (records_in most) sent error (record_at rest) told)

-- no text is left after the commands
pub nothing_left : (whole : Stream) (room : ℕ) (commands : List Command) (rest : List ℕ) → whole ≡ behind commands [] (header_in room rest) → length rest ≡ 0 → whole ≡ behind commands [] (headed_by false rest)
nothing_left whole room commands [] so_far none = so_far
nothing_left whole room commands (b ∷ bs) so_far none = absurd (omega arith)

-- an empty line follows them
pub headed_left : (whole : Stream) (room : ℕ) (commands : List Command) (rest records : List ℕ) → whole ≡ behind commands [] (header_in room rest) → rest ≡ 10 ∷ records → whole ≡ behind commands [] (headed_by true records)
headed_left whole room commands rest records so_far is =
    so_far ∙ ap (behind commands []) (ap (header_in room) is ∙ step_end room 10 records refl)

-- or a line that is not finished
pub unfinished_left : (whole : Stream) (room : ℕ) (commands : List Command) (rest : List ℕ) → 0 < length rest → ((records : List ℕ) → rest ≢ 10 ∷ records) → whole ≡ behind commands [] (header_in room rest)
    → command_at rest ≡ Err command.Truncated → whole ≡ behind commands [] (headed_by false rest)
unfinished_left whole room commands rest some line so_far is =
    so_far ∙ ap (behind commands []) (header_step room rest some line ∙ ap (after_command rest (others_in room)) is)

-- or one that is wrong
behind_breaks : (commands : List Command) (s : Stream) (error : BodyError) → TellsBreak s error → TellsBreak (behind commands [] s) error
behind_breaks commands s (Fault fault) told = ap (behind commands []) told
behind_breaks commands s Memory told = tt

pub breaks_command : (whole : Stream) (room : ℕ) (commands : List Command) (rest : List ℕ) (error : BodyError) → 0 < length rest → ((records : List ℕ) → rest ≢ 10 ∷ records)
    → whole ≡ behind commands [] (header_in room rest) → ((others : List ℕ → Stream) → TellsBreak (after_command rest others (command_at rest)) error) → TellsBreak whole error
breaks_command whole room commands rest error some line so_far told =
    same_break whole _ error (so_far ∙ ap (behind commands []) (header_step room rest some line)) (behind_breaks commands _ error (told (others_in room)))

-- or one more than there is room for
pub breaks_full : (whole : Stream) (room : ℕ) (commands : List Command) (rest : List ℕ) (found : Command × List ℕ) → room ≡ 0 → 0 < length rest → ((records : List ℕ) → rest ≢ 10 ∷ records)
    → whole ≡ behind commands [] (header_in room rest) → command_at rest ≡ Ok found → whole ≡ Breaks TooMany
breaks_full whole zero commands rest found none some line so_far is =
    so_far ∙ ap (behind commands []) (header_step zero rest some line ∙ ap (after_command rest (others_in zero)) is)
breaks_full whole (suc room) commands rest found none some line so_far is = absurd (omega arith)

-- one more command was read
pub command_more : (most : ℕ) (whole : Stream) (room : ℕ) (sent more : List Command) (rest others : List ℕ) (command : Command) → 0 < length rest → ((records : List ℕ) → rest ≢ 10 ∷ records) → length sent + room ≡ most → length sent < most
    → whole ≡ behind sent [] (header_in room rest) → command_at rest ≡ Ok (command, others) → more ≡ sent ++ command ∷ []
    → (left : ℕ) × (length more + left ≡ most) × (whole ≡ behind more [] (header_in left others))
command_more most whole zero sent more rest others command some line all few so_far taken grown = absurd (omega arith)
command_more most whole (suc room) sent more rest others command some line all few so_far taken grown =
    let longer : length more ≡ length sent + 1 = ap (λ (l : List Command). length l) grown ∙ length-append sent (command ∷ []) in (
      room,
      omega arith,
      so_far ∙ ap (behind sent []) (header_step (suc room) rest some line ∙ ap (after_command rest (header_in room)) taken)
          ∙ behind-behind sent (command ∷ []) [] [] (header_in room others) ∙ ap (λ commands. behind commands [] (header_in room others)) (sym grown),
    )

-- what the commands of a text begin with
pub header_begun : (room : ℕ) (text : List ℕ) (none : List Command) → none ≡ [] → header_in room text ≡ behind none [] (header_in room text)
header_begun room text none is = sym (behind-nil (header_in room text)) ∙ ap (λ commands. behind commands [] (header_in room text)) (sym is)
