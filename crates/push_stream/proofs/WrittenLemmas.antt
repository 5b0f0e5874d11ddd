-- Records that are written are read, and streams of command lines and records hold these commands and objects.
use Rattle.std.proofs.Common.{◌≡◌, ◌≢◌, ℕ, zero, suc, ◌+◌, ◌*◌, ◌<◌, ◌≤◌, ◌^◌, Bool, true, false, cond, All, List, [], ◌∷◌, ◌++◌, Option, None, Some, Result, Ok, Err, refl, sym, ap, ap₂, ◌∙◌, is_some, decimal, length, length-append, append_assoc, take, drop, arith, nat_lt}
use Rattle.std.proofs.Math.Seq.{take-append_seam, drop-append_seam}
use Rattle.std.proofs.lemmas.Bool.Decides.{nat_tests}
use Rattle.std.proofs.lemmas.Fmt.{length-decimal-le}
use Rattle.std.proofs.lemmas.List.Elements.{All-append, All-cons, All-same}
use Rattle.std.proofs.lemmas.Slice.Eq.{bytes_eq-Decides}
use Rattle.hex.specs.Hex.{encode_lower, lower_digits}
use Rattle.hex.proofs.HexLemmas.{length-encode_with}
use Rattle.git_name.specs.declared.kind.Kind.{Kind}
use Rattle.git_name.specs.declared.kind.Kind.TheVariants.{Blob, Tree, Commit, Tag}
use Rattle.git_name.specs.Kind.{kind_of_word, type_word}
use Rattle.git_name.specs.Number.{number_in}
use Rattle.git_name.specs.Object.{Object, object_name}
use Rattle.git_name.specs.Text.{words_of}
use Rattle.git_name.proofs.DigestLemmas.{is_name-object_name}
use Rattle.git_name.proofs.PlainLemmas.{encode_lower-plain, type_word-plain, decimal-plain}
use Rattle.git_name.proofs.ReadingLemmas.{name_in-encode_lower, number_in-decimal, kind_of_word-type_word}
use Rattle.git_name.proofs.TextLemmas.{words_of-append, words_of-plain}
use Rattle.git_object.specs.Object.{ObjectValue}
use Rattle.git_object.specs.ObjectIn.{object_in}
use Rattle.git_reftx.specs.declared.command.Command.{Command}
use Rattle.git_reftx.specs.declared.fault.CommandFault.{CommandFault}
use Rattle.git_reftx.specs.declared.reading.TheConstants.{MAX_COMMANDS}
use Rattle.git_reftx.specs.Reading.{command_at, with_command, and_others, commands_in, commands_of}
use Rattle.push_stream.specs.declared.fault.StreamFault.TheVariants.{TooLarge, WrongName, BadObject}
use Rattle.push_stream.specs.declared.record.Head.{Head}
use Rattle.push_stream.specs.declared.content_limit.TheConstants.{MAX_CONTENT}
use Rattle.push_stream.specs.Record.{Parts, Faulty, Taken, Wrong, record_line, record_of, head_of_parts, head_of_words, parts_of_content, content_at, parts_of_head, parts_of_line, parts_at, right, named, record_of_parts, record_at}
use Rattle.push_stream.specs.Spelling.{AreWithin, IsStream, records_of}
use Rattle.push_stream.specs.Stream.{Flows, AreObjects, behind, after_record, records_in, after_command, header_in, stream_of}
use Rattle.push_stream.proofs.HeaderLemmas.{step_end, step_line}
use Rattle.push_stream.proofs.LineLemmas.{line_again, command_longer, no_line_end}
use Rattle.push_stream.proofs.RecordLemmas.{record_shorter}
use Rattle.push_stream.proofs.StreamLemmas.{behind-nil, behind-behind, records_in-nil}

-- a space is no byte below it
space_plain : (byte : ℕ) → byte < 32 → 32 ≢ byte
space_plain byte low is = absurd (omega arith)

small : (n : ℕ) → n ≤ MAX_CONTENT → n < 2 ^ 64
small n fits = omega arith

-- three words with a space between each two, from the first on
pub three_words : (digits word number : List ℕ) → digits ++ 32 ∷ word ++ 32 ∷ number ≡ digits ++ 32 ∷ (word ++ 32 ∷ number)
three_words digits word number = append_assoc digits (32 ∷ word) (32 ∷ number)

-- the line of a record has no LF
line_plain : (object : Object) → length object.bytes ≤ MAX_CONTENT → All (λ b. b ≢ 10) (record_line object)
line_plain object fits =
    let digits : List ℕ = encode_lower (object_name object) in
    let word : List ℕ = type_word object.kind in
    let number : List ℕ = decimal (length object.bytes) in
    let last = All-cons (λ b. b ≢ 10) 32 number (space_plain 10 (omega arith)) (decimal-plain 10 (omega arith) (length object.bytes) (small (length object.bytes) fits)) in
    let words = All-append (λ b. b ≢ 10) word (32 ∷ number) (type_word-plain 10 (omega arith) object.kind) last in
    let rest = All-cons (λ b. b ≢ 10) 32 (word ++ 32 ∷ number) (space_plain 10 (omega arith)) words in
    All-same (λ b. b ≢ 10) _ _ (three_words digits word number)
    (All-append (λ b. b ≢ 10) digits (32 ∷ (word ++ 32 ∷ number)) (encode_lower-plain 10 (omega arith) (object_name object) (is_name-object_name object).bytes) rest)

word_short : (kind : Kind) → length (type_word kind) ≤ 6
word_short Blob = omega arith
word_short Tree = omega arith
word_short Commit = omega arith
word_short Tag = omega arith

three_short : (digits word number : List ℕ) → length digits ≡ 64 → length word ≤ 6 → length number ≤ 20 → length (digits ++ 32 ∷ word ++ 32 ∷ number) ≤ 512
three_short digits word number first second third =
    let all : length (digits ++ 32 ∷ word ++ 32 ∷ number) ≡ length (digits ++ 32 ∷ word) + suc (length number) = length-append (digits ++ 32 ∷ word) (32 ∷ number) in
    let front : length (digits ++ 32 ∷ word) ≡ length digits + suc (length word) = length-append digits (32 ∷ word) in
    omega arith

-- nor is it too long
line_short : (object : Object) → length object.bytes ≤ MAX_CONTENT → length (record_line object) ≤ 512
line_short object fits =
    let digits : length (encode_lower (object_name object)) ≡ 2 * length (object_name object) = length-encode_with lower_digits (object_name object) in
    let name : length (object_name object) ≡ 32 = (is_name-object_name object).length in
    three_short (encode_lower (object_name object)) (type_word object.kind) (decimal (length object.bytes)) (omega arith) (word_short object.kind)
    (length-decimal-le 20 (length object.bytes) (omega arith) (omega arith) (small (length object.bytes) fits))

-- its words
line_words : (object : Object) → length object.bytes ≤ MAX_CONTENT → words_of (record_line object) ≡ encode_lower (object_name object) ∷ type_word object.kind ∷ decimal (length object.bytes) ∷ []
line_words object fits =
    let number = words_of-plain (decimal (length object.bytes)) (decimal-plain 32 (omega arith) (length object.bytes) (small (length object.bytes) fits)) in
    let rest = words_of-append (type_word object.kind) (decimal (length object.bytes)) (type_word-plain 32 (omega arith) object.kind) ∙ ap (λ words. type_word object.kind ∷ words) number in
    ap words_of (three_words (encode_lower (object_name object)) (type_word object.kind) (decimal (length object.bytes)))
    ∙ words_of-append (encode_lower (object_name object)) (type_word object.kind ++ 32 ∷ decimal (length object.bytes)) (encode_lower-plain 32 (omega arith) (object_name object) (is_name-object_name object).bytes)
    ∙ ap (λ words. encode_lower (object_name object) ∷ words) rest

-- what the line of an object's record says
abbrev head_of_object : Object → Head
head_of_object object = record { name = object_name object; kind = object.kind; size = length object.bytes }

head_again : (object : Object) → length object.bytes ≤ MAX_CONTENT → head_of_words (words_of (record_line object)) ≡ Some (head_of_object object)
head_again object fits =
    ap head_of_words (line_words object fits)
    ∙ ap (λ o. head_of_parts o (kind_of_word (type_word object.kind)) (number_in (decimal (length object.bytes)))) (name_in-encode_lower (object_name object) (is_name-object_name object))
    ∙ ap (λ o. head_of_parts (Some (object_name object)) o (number_in (decimal (length object.bytes)))) (kind_of_word-type_word object.kind)
    ∙ ap (head_of_parts (Some (object_name object)) (Some object.kind)) (number_in-decimal (length object.bytes) (small (length object.bytes) fits))

not_large : (n : ℕ) → n ≤ MAX_CONTENT → nat_lt MAX_CONTENT n ≡ false
not_large n fits = grind (arith, nat_tests)

-- the content is read
content_again : (object : Object) (rest : List ℕ) → length object.bytes ≤ MAX_CONTENT → content_at (head_of_object object) (object.bytes ++ 10 ∷ rest) ≡ Parts (head_of_object object) object.bytes rest
content_again object rest fits =
    let text : List ℕ = object.bytes ++ 10 ∷ rest in
    ap (λ (t : Bool). cond t (Faulty (TooLarge (object_name object))) (parts_of_content (head_of_object object) (take (length object.bytes) text) (drop (length object.bytes) text))) (not_large (length object.bytes) fits)
    ∙ ap₂ (parts_of_content (head_of_object object)) (take-append_seam object.bytes (10 ∷ rest)) (drop-append_seam object.bytes (10 ∷ rest))

is_found : (o : Option ObjectValue) → o ≢ None → is_some o ≡ true
is_found None found = absurd (found refl)
is_found (Some value) found = refl

-- its name and its grammar are right
judged : (object : Object) (rest : List ℕ) → object_in object.kind object.bytes ≢ None → named (object_name object) object rest ≡ Taken object rest
judged object rest found =
    ap (λ (t : Bool). cond t (right (object_name object) object rest) (Wrong (WrongName (object_name object)))) ((bytes_eq-Decides (object_name object) (object_name object)).1 refl)
    ∙ ap (λ (t : Bool). cond t (Taken object rest) (Wrong (BadObject (object_name object)))) (is_found (object_in object.kind object.bytes) found)

-- the line of a record, and what follows
pub record_parts : (object : Object) (rest : List ℕ) → record_of object ++ rest ≡ record_line object ++ 10 ∷ (object.bytes ++ 10 ∷ rest)
unfolding record_of
record_parts object rest =
    append_assoc (record_line object ++ 10 ∷ object.bytes) (10 ∷ []) rest ∙ append_assoc (record_line object) (10 ∷ object.bytes) (10 ∷ rest)

parts_again : (object : Object) (rest : List ℕ) → length object.bytes ≤ MAX_CONTENT → parts_at (record_line object ++ 10 ∷ (object.bytes ++ 10 ∷ rest)) ≡ Parts (head_of_object object) object.bytes rest
unfolding parts_at
parts_again object rest fits =
    ap parts_of_line (line_again (record_line object) (object.bytes ++ 10 ∷ rest) (line_plain object fits) (line_short object fits))
    ∙ ap (λ o. parts_of_head o (object.bytes ++ 10 ∷ rest)) (head_again object fits)
    ∙ content_again object rest fits

-- a record is read
pub record_again : (object : Object) (rest : List ℕ) → object_in object.kind object.bytes ≢ None → length object.bytes ≤ MAX_CONTENT → record_at (record_of object ++ rest) ≡ Taken object rest
unfolding record_at
record_again object rest found fits =
    ap (λ text. record_of_parts (parts_at text)) (record_parts object rest) ∙ ap record_of_parts (parts_again object rest fits) ∙ judged object rest found

-- and so are records
pub records_again : (most : ℕ) (objects : List Object) → AreObjects objects → AreWithin objects → length (records_of objects) ≤ most → records_in most (records_of objects) ≡ Flows [] objects true []
records_again most [] are within fits = records_in-nil most
records_again zero (object ∷ objects) are within fits =
    let shorter : length (records_of objects) < length (records_of (object ∷ objects)) = record_shorter (records_of (object ∷ objects)) object (records_of objects) (record_again object (records_of objects) are.0 within.0) in
    absurd (omega arith)
records_again (suc most) (object ∷ objects) are within fits =
    let taken = record_again object (records_of objects) are.0 within.0 in
    let shorter : length (records_of objects) < length (records_of (object ∷ objects)) = record_shorter (records_of (object ∷ objects)) object (records_of objects) taken in
    ap (after_record (records_of (object ∷ objects)) (records_in most)) taken ∙ ap (behind [] (object ∷ [])) (records_again most objects are.1 within.1 (omega arith))

-- command lines, an empty line, and what follows
header_again : (room : ℕ) (lines rest : List ℕ) (commands : List Command) → commands_in room lines ≡ Ok commands → header_in room (lines ++ 10 ∷ rest) ≡ behind commands [] (records_in (length rest) rest)
header_again room [] rest commands is =
    let none : [] ≡ commands = cc in
    step_end room 10 rest refl ∙ sym (behind-nil (records_in (length rest) rest)) ∙ ap (λ (all : List Command). behind all [] (records_in (length rest) rest)) none
header_again zero (b ∷ bs) rest commands is = absurd (cc)
header_again (suc room) (b ∷ bs) rest commands is = by_command (command_at (b ∷ bs)) refl is (λ lines others. header_again room lines rest others)
  where
    by_rest : (found : Command × List ℕ) → command_at (b ∷ bs) ≡ Ok found → (r : Result (List Command) CommandFault) → commands_in room found.1 ≡ r → with_command found.0 r ≡ Ok commands
        → ((lines : List ℕ) (others : List Command) → commands_in room lines ≡ Ok others → header_in room (lines ++ 10 ∷ rest) ≡ behind others [] (records_in (length rest) rest))
        → header_in (suc room) (b ∷ (bs ++ 10 ∷ rest)) ≡ behind commands [] (records_in (length rest) rest)
    by_rest found front (Err fault) said is again = absurd (cc)
    by_rest found front (Ok others) said is again =
        let all : found.0 ∷ others ≡ commands = cc in
        step_line (suc room) b (bs ++ 10 ∷ rest) (no_line_end b bs found front)
        ∙ ap (after_command (b ∷ (bs ++ 10 ∷ rest)) (header_in room)) (command_longer (b ∷ bs) (10 ∷ rest) found front)
        ∙ ap (behind (found.0 ∷ []) []) (again found.1 others said)
        ∙ behind-behind (found.0 ∷ []) others [] [] (records_in (length rest) rest)
        ∙ ap (λ (cs : List Command). behind cs [] (records_in (length rest) rest)) all

    by_command : (at : Result (Command × List ℕ) CommandFault) → command_at (b ∷ bs) ≡ at → and_others (commands_in room) at ≡ Ok commands
        → ((lines : List ℕ) (others : List Command) → commands_in room lines ≡ Ok others → header_in room (lines ++ 10 ∷ rest) ≡ behind others [] (records_in (length rest) rest))
        → header_in (suc room) (b ∷ (bs ++ 10 ∷ rest)) ≡ behind commands [] (records_in (length rest) rest)
    by_command (Ok found) front is again = by_rest found front (commands_in room found.1) refl is again
    by_command (Err fault) front is again = absurd (cc)

-- records alone
pub records_flow : (objects : List Object) → AreObjects objects → AreWithin objects → stream_of (10 ∷ records_of objects) ≡ Flows [] objects true []
unfolding stream_of
records_flow objects are within = step_end MAX_COMMANDS 10 (records_of objects) refl ∙ records_again (length (records_of objects)) objects are within (omega arith)

pub append-none : (commands : List Command) (objects : List Object) → behind commands [] (Flows [] objects true []) ≡ Flows commands objects true []
append-none [] objects = refl
append-none (command ∷ commands) objects = ap (behind (command ∷ []) []) (append-none commands objects)

-- and after command lines
pub spelled_flows : (bytes : List ℕ) (commands : List Command) (objects : List Object) → IsStream bytes commands objects → stream_of bytes ≡ Flows commands objects true []
unfolding stream_of commands_of
spelled_flows bytes commands objects is =
    ap (header_in MAX_COMMANDS) is.spelled
    ∙ header_again MAX_COMMANDS is.lines (records_of objects) commands is.asked
    ∙ ap (behind commands []) (records_again (length (records_of objects)) objects is.right is.within (omega arith))
    ∙ append-none commands objects
