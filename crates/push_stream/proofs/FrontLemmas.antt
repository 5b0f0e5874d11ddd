-- What is at the start of a text, before what is left of it.
use Rattle.std.proofs.Common.{◌≡◌, ℕ, suc, ◌+◌, ◌-◌, ◌<◌, ◌≤◌, Bool, true, false, List, [], ◌∷◌, ◌++◌, Result, Ok, Err, refl, sym, ap, ap₂, subst, ◌∙◌, length, length-append, append_assoc, append-nil, arith, take}
use Rattle.std.specs.Prelude.{IfOk}
use Rattle.std.proofs.Math.Seq.{take-append_seam}
use Rattle.std.proofs.lemmas.List.{append_cancel_right}
use Rattle.std.proofs.lemmas.Grind.{flat_map-append}
use Rattle.git_name.specs.Object.{Object}
use Rattle.git_reftx.specs.declared.command.Command.{Command}
use Rattle.git_reftx.specs.Line.{line_at}
use Rattle.git_reftx.specs.Reading.{command_at}
use Rattle.git_reftx.specs.declared.reading.TheConstants.{MAX_COMMANDS}
use Rattle.push_stream.specs.declared.fault.BodyError.{BodyError}
use Rattle.push_stream.specs.declared.gaining.Added.{Added}
use Rattle.push_stream.specs.declared.content_limit.TheConstants.{MAX_REST}
use Rattle.push_stream.specs.Adding.{IsAdded}
use Rattle.push_stream.specs.Gaining.{Awaits, EndsIn, HasFront}
use Rattle.push_stream.specs.Reading.{added_in}
use Rattle.push_stream.specs.Record.{Taken, record_at, record_of}
use Rattle.push_stream.specs.Spelling.{records_of}
use Rattle.push_stream.specs.Stream.{Flows, after_command, behind, header_in, records_in}
use Rattle.push_stream.proofs.HeaderLemmas.{step_end, step_line}
use Rattle.push_stream.proofs.LineLemmas.{command_is, no_line_end}
use Rattle.push_stream.proofs.PieceLemmas.{continued_in, header_grows}
use Rattle.push_stream.proofs.SpellingLemmas.{IsRecordOf, record_is}

-- what precedes the end of a text
pub front_taken : (end text : List ℕ) → EndsIn end text → text ≡ take (length text - length end) text ++ end
front_taken end text is =
    let all : length text ≡ length is.0 + length end = ap (λ (l : List ℕ). length l) is.1 ∙ length-append is.0 end in
    let size : length text - length end ≡ length is.0 = omega arith in
    let front : take (length text - length end) text ≡ is.0 = ap (λ n. take n text) size ∙ ap (take (length is.0)) is.1 ∙ take-append_seam is.0 end in
    is.1 ∙ ap (λ (l : List ℕ). l ++ end) (sym front)

-- an empty text begins with no command
no_line : (command : Command) → command_at [] ≡ Ok (command, []) → ⊥
unfolding command_at line_at
no_line command is = cc

-- a line that is a command
one_line : (room : ℕ) (text : List ℕ) (command : Command) → command_at text ≡ Ok (command, []) → header_in (suc room) text ≡ Flows (command ∷ []) [] false []
one_line room [] command is = absurd (no_line command is)
one_line room (b ∷ bs) command is =
    step_line (suc room) b bs (no_line_end b bs (command, []) is) ∙ ap (after_command (b ∷ bs) (header_in room)) is

-- nothing was taken yet
pub front_begun : (room : ℕ) (text : List ℕ) (none : List Command) → none ≡ [] → HasFront room text none false text
front_begun room text none is = ([], refl, ap (λ (commands : List Command). Flows commands [] false []) (sym is))

-- one more command line
pub front_more : (room : ℕ) (text left others : List ℕ) (commands more : List Command) (command : Command) → length commands < room → HasFront room text commands false left → command_at left ≡ Ok (command, others) → more ≡ commands ++ command ∷ []
    → HasFront room text more false others
front_more room text left others commands more command few so_far taken grown =
    let one = command_is left (command, others) taken in
    let line : List ℕ = one.0 ++ 10 ∷ [] in
    let places : room - length commands ≡ suc (room - length commands - 1) = omega arith in
    let read : header_in (room - length commands) line ≡ Flows (command ∷ []) [] false [] = ap (λ n. header_in n line) places ∙ one_line (room - length commands - 1) line command (one.2 []) in (
      so_far.0 ++ line,
      so_far.1 ∙ ap (λ (l : List ℕ). so_far.0 ++ l) (one.1 ∙ sym (append_assoc one.0 (10 ∷ []) others)) ∙ sym (append_assoc so_far.0 line others),
      sym (header_grows room so_far.0 line) ∙ ap (λ s. continued_in room s line) so_far.2 ∙ ap (behind commands []) read ∙ ap (λ (all : List Command). Flows all [] false []) (sym grown),
    )

-- and the empty line
pub front_ends : (room : ℕ) (text left records : List ℕ) (commands : List Command) → HasFront room text commands false left → left ≡ 10 ∷ records → HasFront room text commands true records
front_ends room text left records commands so_far is = (
  so_far.0 ++ 10 ∷ [],
  so_far.1 ∙ ap (λ (l : List ℕ). so_far.0 ++ l) is ∙ sym (append_assoc so_far.0 (10 ∷ []) records),
  sym (header_grows room so_far.0 (10 ∷ [])) ∙ ap (λ s. continued_in room s (10 ∷ [])) so_far.2 ∙ ap (behind commands []) (step_end (room - length commands) 10 [] refl) ∙ ap (λ (all : List Command). Flows all [] true []) (append-nil commands),
)

-- what precedes what is left is that front
front_is : (room : ℕ) (text front left : List ℕ) (commands : List Command) (headed : Bool) → HasFront room text commands headed left → text ≡ front ++ left → header_in room front ≡ Flows commands [] headed []
front_is room text front left commands headed has is = ap (header_in room) (append_cancel_right front has.0 left (sym is ∙ has.1)) ∙ has.2

-- one more record
pub record_more : (text left others : List ℕ) (objects more : List Object) (object : Object) → text ≡ records_of objects ++ left → record_at left ≡ Taken object others → more ≡ objects ++ object ∷ []
    → text ≡ records_of more ++ others
record_more text left others objects more object so_far taken grown =
    let one = subst (IsRecordOf left) taken (record_is left) in
    let last : records_of (object ∷ []) ≡ record_of object = append-nil (record_of object) in
    so_far ∙ ap (λ (l : List ℕ). records_of objects ++ l) one.0 ∙ sym (append_assoc (records_of objects) (record_of object) others)
    ∙ ap (λ (l : List ℕ). (records_of objects ++ l) ++ others) (sym last)
    ∙ ap (λ (l : List ℕ). l ++ others) (sym (flat_map-append record_of objects (object ∷ [])))
    ∙ ap (λ (os : List Object). records_of os ++ others) (sym grown)

-- and so before the empty line
pub plain_front : (headed : Bool) (had : ℕ) (text front left : List ℕ) (commands : List Command) (later : Bool) → headed ≡ false → HasFront (MAX_COMMANDS - had) text commands later left → text ≡ front ++ left
    → added_in headed had front ≡ Flows commands [] later []
plain_front true had text front left commands later plain has is = (let differs : ⊥ = cc in absurd differs)
plain_front false had text front left commands later plain has is = front_is (MAX_COMMANDS - had) text front left commands later has is

-- what was added has this header and these commands
pub headed_front : (r : Result Added BodyError) (headed : Bool) (had : ℕ) (header : List ℕ) (commands : List Command) → IfOk r (λ a. a.header.items ≡ header) → IfOk r (λ a. a.commands.items ≡ commands) → IfOk r (λ a. a.headed ≡ true)
    → added_in headed had header ≡ Flows commands [] true [] → IfOk r (λ a. added_in headed had a.header.items ≡ Flows a.commands.items [] a.headed [])
headed_front (Ok added) headed had header commands same asked met is = ap (added_in headed had) same ∙ is ∙ ap₂ (λ (cs : List Command) (h : Bool). Flows cs [] h []) (sym asked) (sym met)
headed_front (Err error) headed had header commands same asked met is = tt

-- what two texts spell, if the first ends where a record ends
pub spelled_join : (first second left rest : List ℕ) (objects more all : List Object) → first ≡ records_of objects ++ left → length left ≡ 0 → second ≡ records_of more ++ rest → all ≡ objects ++ more → first ++ second ≡ records_of all ++ rest
spelled_join first second [] rest objects more all is none later grown =
    ap₂ (λ (xs ys : List ℕ). xs ++ ys) (is ∙ append-nil (records_of objects)) later
    ∙ sym (append_assoc (records_of objects) (records_of more) rest)
    ∙ ap (λ (l : List ℕ). l ++ rest) (sym (flat_map-append record_of objects more))
    ∙ ap (λ (os : List Object). records_of os ++ rest) (sym grown)
spelled_join first second (b ∷ bs) rest objects more all is none later grown = absurd (omega arith)

-- records alone, after the empty line
pub records_added : (headed : Bool) (had : ℕ) (text left : List ℕ) (added : Added) → headed ≡ true → had ≤ MAX_COMMANDS → added.header.items ≡ [] → added.commands.items ≡ [] → added.headed ≡ true → added.rest.items ≡ left
    → records_in (length text) text ≡ Flows [] added.objects.items true left → text ≡ records_of added.objects.items ++ left → length left ≤ MAX_REST → Awaits left added.wanted → IsAdded headed had text added
records_added false had text left added met fits no_header no_commands later copied found spelled short waits = (let differs : ⊥ = cc in absurd differs)
records_added true had text left added met fits no_header no_commands later copied found spelled short waits =
    let none : length added.commands.items ≡ 0 = ap (λ (l : List Command). length l) no_commands in
    record {
      found = found ∙ ap₂ (λ (cs : List Command) (l : List ℕ). Flows cs added.objects.items true l) (sym no_commands) (sym copied) ∙ ap (λ (h : Bool). Flows added.commands.items added.objects.items h added.rest.items) (sym later);
      few = omega arith;
      short = subst (λ (l : List ℕ). length l ≤ MAX_REST) (sym copied) short;
      waits = subst (λ (l : List ℕ). Awaits l added.wanted) (sym copied) waits;
      header = ap (added_in true had) no_header ∙ ap₂ (λ (cs : List Command) (h : Bool). Flows cs [] h []) (sym no_commands) (sym later);
      spelled = spelled ∙ ap₂ (λ (h l : List ℕ). h ++ (records_of added.objects.items ++ l)) (sym no_header) (sym copied);
      bare = λ plain. (let differs : ⊥ = cc in absurd differs);
    }
