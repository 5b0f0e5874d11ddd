-- A stream that is whole is spelled as command lines, an empty line, and records.
use Rattle.std.proofs.Common.{◌≡◌, ℕ, zero, suc, ◌+◌, ◌-◌, ◌<◌, ◌≤◌, Bool, true, false, cond, eqb, List, [], ◌∷◌, ◌++◌, Option, None, Some, Result, Ok, Err, refl, sym, ap, ap₂, subst, ◌∙◌, is_some, option_map, decimal, length, length-append, length-drop, length-take-le, append_assoc, take, drop, arith, nat_lt}
use Rattle.std.specs.Prelude.{⊤}
use Rattle.std.specs.Str.{bytes_eq}
use Rattle.std.proofs.lemmas.Bool.Decides.{nat_tests}
use Rattle.std.proofs.lemmas.List.{take-append-drop}
use Rattle.std.proofs.lemmas.Slice.Eq.{bytes_eq-Decides}
use Rattle.hex.specs.Hex.{encode_lower}
use Rattle.git_name.specs.declared.kind.Kind.{Kind}
use Rattle.git_name.specs.Kind.{kind_of_word, type_word}
use Rattle.git_name.specs.Name.{name_in}
use Rattle.git_name.specs.Number.{number_in}
use Rattle.git_name.specs.Object.{Object, object_name}
use Rattle.git_name.specs.Text.{words_of}
use Rattle.git_name.proofs.ReadingLemmas.{written_kind, written_name, written_number}
use Rattle.git_name.proofs.TextLemmas.{spaced, spaced-words_of}
use Rattle.git_object.specs.ObjectIn.{object_in}
use Rattle.git_reftx.specs.declared.command.Command.{Command}
use Rattle.git_reftx.specs.declared.fault.CommandFault.{CommandFault}
use Rattle.git_reftx.specs.declared.fault.CommandFault.TheVariants as command
use Rattle.git_reftx.specs.declared.reading.TheConstants.{MAX_COMMANDS}
use Rattle.git_reftx.specs.Line.{LineAt, Whole, Unfinished, TooLong, line_at}
use Rattle.git_reftx.specs.Reading.{command_at, with_command, and_others, commands_in, commands_of}
use Rattle.git_reftx.proofs.ReadingLemmas.{commands_step}
use Rattle.push_stream.specs.declared.fault.StreamFault.{StreamFault}
use Rattle.push_stream.specs.declared.fault.StreamFault.TheVariants.{Syntax, TooLarge, TooMany, BadObject, WrongName}
use Rattle.push_stream.specs.declared.record.Head.{Head}
use Rattle.push_stream.specs.declared.content_limit.TheConstants.{MAX_CONTENT}
use Rattle.push_stream.specs.Record.{PartsAt, Parts, Short, Faulty, RecordAt, Taken, Open, Wrong, record_line, record_of, head_of_parts, head_of_words, parts_of_content, content_at, parts_of_head, parts_of_line, parts_at, record_of_parts, record_at}
use Rattle.push_stream.specs.Spelling.{AreWithin, IsStream, records_of}
use Rattle.push_stream.specs.Stream.{Stream, Flows, Breaks, AreObjects, behind, after_record, records_in, after_command, header_in, stream_of, finished, sent_in}
use Rattle.push_stream.proofs.LineLemmas.{IsLineOf, line_is, command_is}
use Rattle.push_stream.proofs.ObjectLemmas.{stream_right}
use Rattle.push_stream.proofs.StreamLemmas.{and_more, finished-behind}

-- what a record's line says is what its parts say
pub parts_said : (head : Head) (name : Option (List ℕ)) (kind : Option Kind) (size : Option ℕ) → head_of_parts name kind size ≡ Some head → (name ≡ Some head.name) × (kind ≡ Some head.kind) × (size ≡ Some head.size)
parts_said head (Some name) (Some kind) (Some size) is = (ap (option_map (λ h. h.name)) is, ap (option_map (λ h. h.kind)) is, ap (option_map (λ h. h.size)) is)
parts_said head (Some name) (Some kind) None is = absurd (cc)
parts_said head (Some name) None size is = absurd (cc)
parts_said head None kind size is = absurd (cc)

-- the line that says it
abbrev line_of : Head → List ℕ
line_of head = encode_lower head.name ++ 32 ∷ (type_word head.kind ++ 32 ∷ decimal head.size)

words_said : (head : Head) (words : List (List ℕ)) → head_of_words words ≡ Some head → spaced words ≡ line_of head
words_said head [] is = absurd (cc)
words_said head (digits ∷ []) is = absurd (cc)
words_said head (digits ∷ word ∷ []) is = absurd (cc)
words_said head (digits ∷ word ∷ number ∷ []) is =
    let said = parts_said head (name_in digits) (kind_of_word word) (number_in number) is in
    let rest = ap₂ (λ (a b : List ℕ). a ++ 32 ∷ b) (written_kind word head.kind said.1) (written_number number head.size said.2).0 in
    ap₂ (λ (a b : List ℕ). a ++ 32 ∷ b) (written_name digits head.name said.0) rest
words_said head (digits ∷ word ∷ number ∷ fourth ∷ words) is = absurd (cc)

line_said : (head : Head) (line : List ℕ) → head_of_words (words_of line) ≡ Some head → line ≡ line_of head
line_said head line is = sym (spaced-words_of line) ∙ words_said head (words_of line) is

-- a content that was read is in the text
abbrev IsContentOf : Head → List ℕ → PartsAt → Type 0
IsContentOf head text (Parts said content rest) = (said ≡ head) × (text ≡ content ++ 10 ∷ rest) × (length content ≡ head.size) × (head.size ≤ MAX_CONTENT)
IsContentOf head text Short = ⊤
IsContentOf head text (Faulty fault) = ⊤

ended_is : (head : Head) (text found : List ℕ) → head.size ≤ MAX_CONTENT → drop head.size text ≡ found → IsContentOf head text (parts_of_content head (take head.size text) found)
ended_is head text [] fits is = tt
ended_is head text (b ∷ rest) fits is = by_byte (eqb b 10) refl
  where
    by_byte : (t : Bool) → eqb b 10 ≡ t → IsContentOf head text (cond t (Parts head (take head.size text) rest) (Faulty Syntax))
    by_byte true same =
        let line_end : b ≡ 10 = grind (arith, nat_tests) in
        let left : length (drop head.size text) ≡ suc (length rest) = ap (λ (l : List ℕ). length l) is in
        let dropped : length (drop head.size text) ≡ length text - head.size = length-drop head.size text in
        let long : head.size ≤ length text = omega arith in
        (refl, sym (take-append-drop head.size text) ∙ ap (λ (l : List ℕ). take head.size text ++ l) (is ∙ ap (λ x. x ∷ rest) line_end), length-take-le head.size text long, fits)
    by_byte false same = tt

content_is : (head : Head) (text : List ℕ) → IsContentOf head text (content_at head text)
content_is head text = by_size (nat_lt MAX_CONTENT head.size) refl
  where
    by_size : (t : Bool) → nat_lt MAX_CONTENT head.size ≡ t → IsContentOf head text (cond t (Faulty (TooLarge head.name)) (parts_of_content head (take head.size text) (drop head.size text)))
    by_size true large = tt
    by_size false large = ended_is head text (drop head.size text) (grind (arith, nat_tests)) refl

-- the parts of a record that was read
abbrev ArePartsOf : List ℕ → PartsAt → Type 0
ArePartsOf text (Parts head content rest) = (text ≡ line_of head ++ 10 ∷ (content ++ 10 ∷ rest)) × (length content ≡ head.size) × (head.size ≤ MAX_CONTENT)
ArePartsOf text Short = ⊤
ArePartsOf text (Faulty fault) = ⊤

with_line : (text line rest : List ℕ) (head : Head) (at : PartsAt) → text ≡ line ++ 10 ∷ rest → line ≡ line_of head → IsContentOf head rest at → ArePartsOf text at
with_line text line rest head (Parts said content behind) whole is spelled =
    (whole ∙ ap₂ (λ (a b : List ℕ). a ++ 10 ∷ b) (is ∙ ap line_of (sym spelled.0)) spelled.1, spelled.2 ∙ ap (λ h. h.size) (sym spelled.0), subst (λ (h : Head). h.size ≤ MAX_CONTENT) (sym spelled.0) spelled.3)
with_line text line rest head Short whole is spelled = tt
with_line text line rest head (Faulty fault) whole is spelled = tt

head_is : (text line rest : List ℕ) (o : Option Head) → head_of_words (words_of line) ≡ o → text ≡ line ++ 10 ∷ rest → ArePartsOf text (parts_of_head o rest)
head_is text line rest None is whole = tt
head_is text line rest (Some head) is whole = with_line text line rest head (content_at head rest) whole (line_said head line is) (content_is head rest)

parts_by : (text : List ℕ) (at : LineAt) → IsLineOf text at → ArePartsOf text (parts_of_line at)
parts_by text (Whole line rest) is = head_is text line rest (head_of_words (words_of line)) refl is.0
parts_by text Unfinished is = tt
parts_by text TooLong is = tt

parts_are : (text : List ℕ) → ArePartsOf text (parts_at text)
unfolding parts_at
parts_are text = parts_by text (line_at text) (line_is text)

-- a record that was read is at the start of the text
abbrev pub IsRecordOf : List ℕ → RecordAt → Type 0
IsRecordOf text (Taken object rest) = (text ≡ record_of object ++ rest) × (length object.bytes ≤ MAX_CONTENT)
IsRecordOf text Open = ⊤
IsRecordOf text (Wrong fault) = ⊤

record_spelled : (object : Object) (head : Head) (rest : List ℕ) → object.kind ≡ head.kind → object_name object ≡ head.name → length object.bytes ≡ head.size
    → line_of head ++ 10 ∷ (object.bytes ++ 10 ∷ rest) ≡ record_of object ++ rest
unfolding record_of
record_spelled object head rest kind name size =
    let number = ap decimal (sym size) in
    let words = ap₂ (λ (a b : List ℕ). a ++ 32 ∷ b) (ap type_word (sym kind)) number in
    let line = ap₂ (λ (a b : List ℕ). a ++ 32 ∷ b) (ap encode_lower (sym name)) words in
    let regrouped = sym (append_assoc (encode_lower (object_name object)) (32 ∷ type_word object.kind) (32 ∷ decimal (length object.bytes))) in
    let whole = append_assoc (record_line object ++ 10 ∷ object.bytes) (10 ∷ []) rest ∙ append_assoc (record_line object) (10 ∷ object.bytes) (10 ∷ rest) in
    ap (λ (a : List ℕ). a ++ 10 ∷ (object.bytes ++ 10 ∷ rest)) (line ∙ regrouped) ∙ sym whole

judged_is : (text rest name : List ℕ) (object : Object) (t u : Bool) → (t ≡ true → (text ≡ record_of object ++ rest) × (length object.bytes ≤ MAX_CONTENT))
    → IsRecordOf text (cond t (cond u (Taken object rest) (Wrong (BadObject name))) (Wrong (WrongName name)))
judged_is text rest name object true true is = is refl
judged_is text rest name object true false is = tt
judged_is text rest name object false u is = tt

record_by : (text : List ℕ) (at : PartsAt) → ArePartsOf text at → IsRecordOf text (record_of_parts at)
record_by text (Parts head content rest) are =
    let object : Object = record { kind = head.kind; bytes = content } in
    judged_is text rest head.name object (bytes_eq (object_name object) head.name) (is_some (object_in head.kind content)) (λ same.
    (are.0 ∙ record_spelled object head rest refl ((bytes_eq-Decides (object_name object) head.name).0 same) are.1, subst (λ n. n ≤ MAX_CONTENT) (sym are.1) are.2))
record_by text Short are = tt
record_by text (Faulty fault) are = tt

pub record_is : (text : List ℕ) → IsRecordOf text (record_at text)
unfolding record_at
record_is text = record_by text (parts_at text) (parts_are text)

-- a text of records to its end
abbrev AreRecords : List ℕ → Result (List Command × List Object) StreamFault → Type 0
AreRecords text (Ok held) = (held.0 ≡ []) × (text ≡ records_of held.1) × AreWithin held.1
AreRecords text (Err fault) = ⊤

no_records : (text : List ℕ) → AreRecords text (finished (Flows [] [] true text))
no_records [] = (refl, refl, tt)
no_records (b ∷ text) = tt

one_more : (text rest : List ℕ) (object : Object) (r : Result (List Command × List Object) StreamFault) → IsRecordOf text (Taken object rest) → AreRecords rest r → AreRecords text (and_more [] (object ∷ []) r)
one_more text rest object (Ok held) is are = (are.0, is.0 ∙ ap (λ (more : List ℕ). record_of object ++ more) are.1, (is.1, are.2))
one_more text rest object (Err fault) is are = tt

records_are : (most : ℕ) (text : List ℕ) → AreRecords text (finished (records_in most text))
records_are zero text = no_records text
records_are (suc most) text = by_record (record_at text) (record_is text) (λ rest. records_are most rest)
  where
    by_record : (at : RecordAt) → IsRecordOf text at → ((rest : List ℕ) → AreRecords rest (finished (records_in most rest))) → AreRecords text (finished (after_record text (records_in most) at))
    by_record (Taken object rest) is are = subst (AreRecords text) (sym (finished-behind [] (object ∷ []) (records_in most rest))) (one_more text rest object (finished (records_in most rest)) is (are rest))
    by_record Open is are = no_records text
    by_record (Wrong fault) is are = tt

-- a whole stream with room for this many commands
abbrev IsWhole : ℕ → List ℕ → Result (List Command × List Object) StreamFault → Type 0
IsWhole room text (Ok held) = (lines : List ℕ) × (text ≡ lines ++ 10 ∷ records_of held.1) × (commands_in room lines ≡ Ok held.0) × AreWithin held.1
IsWhole room text (Err fault) = ⊤

none_asked : (room : ℕ) (commands : List Command) → commands ≡ [] → commands_in room [] ≡ Ok commands
none_asked room commands none = ap (λ (cs : List Command). Ok cs) (sym none)

-- records alone after an empty line
records_alone : (room b : ℕ) (bs : List ℕ) (r : Result (List Command × List Object) StreamFault) → eqb b 10 ≡ true → AreRecords bs r → IsWhole room (b ∷ bs) r
records_alone room b bs (Ok held) same are =
    let line_end : b ≡ 10 = grind (arith, nat_tests) in
    ([], ap₂ (λ x (xs : List ℕ). x ∷ xs) line_end are.1, none_asked room held.0 are.0, are.2)
records_alone room b bs (Err fault) same are = tt

some_bytes : (line rest : List ℕ) → 0 < length (line ++ 10 ∷ rest)
some_bytes line rest =
    let all : length (line ++ 10 ∷ rest) ≡ length line + suc (length rest) = length-append line (10 ∷ rest) in
    omega arith

-- one more command line before
one_asked : (room : ℕ) (text : List ℕ) (found : Command × List ℕ) (r : Result (List Command × List Object) StreamFault) → command_at text ≡ Ok found → IsWhole room found.1 r → IsWhole (suc room) text (and_more (found.0 ∷ []) [] r)
one_asked room text found (Ok held) front is =
    let one = command_is text found front in
    let lines : List ℕ = one.0 ++ 10 ∷ is.0 in (
      lines,
      one.1 ∙ ap (λ (l : List ℕ). one.0 ++ 10 ∷ l) is.1 ∙ sym (append_assoc one.0 (10 ∷ is.0) (10 ∷ records_of held.1)),
      commands_step room lines (some_bytes one.0 is.0) ∙ ap (and_others (commands_in room)) (one.2 is.0) ∙ ap (with_command found.0) is.2,
      is.3,
    )
one_asked room text found (Err fault) front is = tt

-- a whole stream without room for a command
none_more : (text : List ℕ) (at : Result (Command × List ℕ) CommandFault) → IsWhole zero text (finished (after_command text (λ rest. Breaks TooMany) at))
none_more text (Ok found) = tt
none_more text (Err command.Syntax) = tt
none_more text (Err command.TooMany) = tt
none_more text (Err command.Truncated) = tt

header_is : (room : ℕ) (text : List ℕ) → IsWhole room text (finished (header_in room text))
header_is room [] = tt
header_is zero (b ∷ bs) = by_byte (eqb b 10) refl
  where
    by_byte : (t : Bool) → eqb b 10 ≡ t → IsWhole zero (b ∷ bs) (finished (cond t (records_in (length bs) bs) (after_command (b ∷ bs) (λ rest. Breaks TooMany) (command_at (b ∷ bs)))))
    by_byte true same = records_alone zero b bs (finished (records_in (length bs) bs)) same (records_are (length bs) bs)
    by_byte false same = none_more (b ∷ bs) (command_at (b ∷ bs))
header_is (suc room) (b ∷ bs) = by_byte (eqb b 10) refl (λ rest. header_is room rest)
  where
    by_command : (at : Result (Command × List ℕ) CommandFault) → command_at (b ∷ bs) ≡ at → ((rest : List ℕ) → IsWhole room rest (finished (header_in room rest))) → IsWhole (suc room) (b ∷ bs) (finished (after_command (b ∷ bs) (header_in room) at))
    by_command (Ok found) front are = subst (IsWhole (suc room) (b ∷ bs)) (sym (finished-behind (found.0 ∷ []) [] (header_in room found.1))) (one_asked room (b ∷ bs) found (finished (header_in room found.1)) front (are found.1))
    by_command (Err command.Syntax) front are = tt
    by_command (Err command.TooMany) front are = tt
    by_command (Err command.Truncated) front are = tt

    by_byte : (t : Bool) → eqb b 10 ≡ t → ((rest : List ℕ) → IsWhole room rest (finished (header_in room rest))) → IsWhole (suc room) (b ∷ bs) (finished (cond t (records_in (length bs) bs) (after_command (b ∷ bs) (header_in room) (command_at (b ∷ bs)))))
    by_byte true same are = records_alone (suc room) b bs (finished (records_in (length bs) bs)) same (records_are (length bs) bs)
    by_byte false same are = by_command (command_at (b ∷ bs)) refl are

abbrev held_objects : Result (List Command × List Object) StreamFault → List Object
held_objects (Ok held) = held.1
held_objects (Err fault) = []

-- a stream that ends here holds what was sent
whole_sends : (s : Stream) (commands : List Command) (objects : List Object) → finished s ≡ Ok (commands, objects) → sent_in s ≡ objects
whole_sends (Flows others more true []) commands objects is = ap held_objects is
whole_sends (Flows others more true (b ∷ rest)) commands objects is = absurd (cc)
whole_sends (Flows others more false rest) commands objects is = absurd (cc)
whole_sends (Breaks fault) commands objects is = absurd (cc)

-- so a whole stream is spelled as command lines and records
pub whole_is_spelled : (bytes : List ℕ) (commands : List Command) (objects : List Object) → finished (stream_of bytes) ≡ Ok (commands, objects) → IsStream bytes commands objects
unfolding stream_of commands_of
whole_is_spelled bytes commands objects is =
    let spelled = subst (IsWhole MAX_COMMANDS bytes) is (header_is MAX_COMMANDS bytes) in
    record {
      lines = spelled.0;
      spelled = spelled.1;
      asked = spelled.2;
      right = subst AreObjects (whole_sends (stream_of bytes) commands objects is) (stream_right bytes);
      within = spelled.3;
    }
