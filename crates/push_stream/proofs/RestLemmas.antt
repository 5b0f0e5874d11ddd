-- How long an unfinished rest may be, and until when a record stays unfinished.
use Rattle.std.proofs.Common.{◌≡◌, ℕ, zero, suc, ◌+◌, ◌-◌, ◌*◌, ◌<◌, ◌≤◌, ◌/◌, ◌%◌, Bool, true, false, cond, eqb, List, [], ◌∷◌, ◌++◌, Option, None, Some, Result, Ok, Err, refl, sym, ap, subst, ◌∙◌, is_some, decimal, length, length-append, length-drop, take, drop, arith, nat_lt}
use Rattle.std.specs.Prelude.{nat_le, ⊤}
use Rattle.std.specs.Str.{bytes_eq}
use Rattle.std.proofs.lemmas.Bool.Decides.{nat_tests}
use Rattle.std.proofs.lemmas.Fmt.{length-decimal-le}
use Rattle.hex.specs.Hex.{decode_pairs, lower_digits}
use Rattle.hex.proofs.HexLemmas.{length-encode_with}
use Rattle.hex.specs.declared.error.FromHexError.TheVariants.{OddLength, InvalidStringLength}
use Rattle.git_name.specs.declared.kind.Kind.{Kind}
use Rattle.git_name.specs.declared.kind.Kind.TheVariants.{Blob, Tree, Commit, Tag}
use Rattle.git_name.specs.Kind.{kind_of_word, type_word}
use Rattle.git_name.specs.Name.{name_in, same_again}
use Rattle.git_name.specs.Number.{number_in}
use Rattle.git_name.specs.Object.{Object, object_name}
use Rattle.git_object.specs.ObjectIn.{object_in}
use Rattle.git_name.specs.Text.{split_once, words_of}
use Rattle.git_name.proofs.ReadingLemmas.{written_kind, written_name, written_number}
use Rattle.git_name.proofs.TextLemmas.{spaced, spaced-words_of}
use Rattle.git_reftx.specs.declared.command.Command.{Command}
use Rattle.git_reftx.specs.declared.fault.CommandFault.{CommandFault}
use Rattle.git_reftx.specs.declared.fault.CommandFault.TheVariants as command
use Rattle.git_reftx.specs.declared.reading.TheConstants.{MAX_COMMANDS}
use Rattle.git_reftx.specs.Command.{command_of}
use Rattle.git_reftx.specs.Line.{LineAt, Whole, Unfinished, TooLong, line_at, line_of_parts}
use Rattle.git_reftx.specs.Reading.{command_at, command_of_line, command_taken}
use Rattle.push_stream.specs.declared.fault.StreamFault.TheVariants.{TooMany, TooLarge, WrongName, BadObject}
use Rattle.push_stream.specs.declared.fault.StreamFault.{StreamFault}
use Rattle.push_stream.specs.declared.record.Head.{Head}
use Rattle.push_stream.specs.declared.content_limit.TheConstants.{MAX_CONTENT, MAX_REST}
use Rattle.push_stream.specs.Gaining.{Awaits}
use Rattle.push_stream.specs.Record.{PartsAt, Parts, Short, Faulty, RecordAt, Taken, Open, Wrong, head_of_words, content_at, parts_of_content, parts_of_head, parts_of_line, parts_at, record_of_parts, record_at}
use Rattle.push_stream.specs.Reading.{flow_of, reading_of, rest_in}
use Rattle.push_stream.specs.Stream.{Stream, Flows, Breaks, behind, after_record, records_in, after_command, header_in, stream_of}
use Rattle.push_stream.proofs.LineLemmas.{IsLineOf, line_is}
use Rattle.push_stream.proofs.LongerLemmas.{line_longer, line_grows}
use Rattle.push_stream.proofs.RecordLemmas.{record_shorter}
use Rattle.push_stream.proofs.SpellingLemmas.{parts_said}

-- a line that is not finished
open_line : (text : List ℕ) (o : Option (List ℕ × List ℕ)) → line_of_parts text o ≡ Unfinished → length text ≤ 512
open_line text None is = by (nat_le (length text) 512) refl is
  where
    by : (t : Bool) → nat_le (length text) 512 ≡ t → cond t Unfinished TooLong ≡ Unfinished → length text ≤ 512
    by true low told = grind (arith, nat_tests)
    by false low told = (let differs : ⊥ = cc in absurd differs)
open_line text (Some (line, rest)) is = by (nat_le (length line) 512) is
  where
    by : (t : Bool) → cond t (Whole line rest) TooLong ≡ Unfinished → length text ≤ 512
    by true told = (let differs : ⊥ = cc in absurd differs)
    by false told = (let differs : ⊥ = cc in absurd differs)

unfinished_short : (text : List ℕ) → line_at text ≡ Unfinished → length text ≤ 512
unfolding line_at
unfinished_short text is = open_line text (split_once 10 text) is

-- a command's line that is not finished
cut_line : (at : LineAt) → command_of_line at ≡ Err command.Truncated → at ≡ Unfinished
cut_line (Whole line rest) is = by (command_of (words_of line)) is
  where
    by : (o : Option Command) → command_taken o rest ≡ Err command.Truncated → Whole line rest ≡ Unfinished
    by (Some one) told = (let differs : ⊥ = cc in absurd differs)
    by None told = (let differs : ⊥ = cc in absurd differs)
cut_line Unfinished is = refl
cut_line TooLong is = (let differs : ⊥ = cc in absurd differs)

pub cut_short : (text : List ℕ) → command_at text ≡ Err command.Truncated → length text ≤ MAX_REST
unfolding command_at
cut_short text is =
    let short : length text ≤ 512 = unfinished_short text (cut_line (line_at text) is) in
    omega arith

-- digits that write a name
sixty_four : (n m : ℕ) → n ≡ 2 * m → eqb (n / 2) 32 ≡ true → n ≡ 64
sixty_four n m double is = grind (arith, nat_tests)

digits_long : (text name : List ℕ) → name_in text ≡ Some name → length text ≡ 64
unfolding name_in
digits_long text name is = by (eqb (length text % 2) 1) (eqb (length text / 2) 32) refl is
  where
    doubled : length text ≡ 2 * length name
    doubled = ap (λ (l : List ℕ). length l) (written_name text name is) ∙ length-encode_with lower_digits name

    by : (a b : Bool) → eqb (length text / 2) 32 ≡ b → same_again text (cond a (Err OddLength) (cond b (decode_pairs 0 text) (Err InvalidStringLength))) ≡ Some name → length text ≡ 64
    by true b half told = (let differs : ⊥ = cc in absurd differs)
    by false true half told = sixty_four (length text) (length name) doubled half
    by false false half told = (let differs : ⊥ = cc in absurd differs)

word_short : (kind : Kind) → length (type_word kind) ≤ 6
word_short Blob = omega arith
word_short Tree = omega arith
word_short Commit = omega arith
word_short Tag = omega arith

three_long : (digits word number : List ℕ) → length digits ≡ 64 → length word ≤ 6 → length number ≤ 7 → length (digits ++ 32 ∷ (word ++ 32 ∷ number)) ≤ 79
three_long digits word number first second third =
    let all : length (digits ++ 32 ∷ (word ++ 32 ∷ number)) ≡ length digits + suc (length (word ++ 32 ∷ number)) = length-append digits (32 ∷ (word ++ 32 ∷ number)) in
    let back : length (word ++ 32 ∷ number) ≡ length word + suc (length number) = length-append word (32 ∷ number) in
    omega arith

number_short : (text : List ℕ) (n : ℕ) → number_in text ≡ Some n → n ≤ MAX_CONTENT → length text ≤ 7
number_short text n is fits =
    let written = written_number text n is in
    let short : length (decimal n) ≤ 7 = length-decimal-le 7 n (omega arith) (omega arith) written.1 in
    subst (λ (l : List ℕ). length l ≤ 7) (sym written.0) short

kind_short : (text : List ℕ) (kind : Kind) → kind_of_word text ≡ Some kind → length text ≤ 6
kind_short text kind is = subst (λ (l : List ℕ). length l ≤ 6) (sym (written_kind text kind is)) (word_short kind)

-- the line of a record
words_short : (head : Head) (words : List (List ℕ)) → head_of_words words ≡ Some head → head.size ≤ MAX_CONTENT → length (spaced words) ≤ 79
words_short head [] is fits = absurd (cc)
words_short head (digits ∷ []) is fits = absurd (cc)
words_short head (digits ∷ word ∷ []) is fits = absurd (cc)
words_short head (digits ∷ word ∷ number ∷ []) is fits =
    let said = parts_said head (name_in digits) (kind_of_word word) (number_in number) is in
    three_long digits word number (digits_long digits head.name said.0) (kind_short word head.kind said.1) (number_short number head.size said.2 fits)
words_short head (digits ∷ word ∷ number ∷ fourth ∷ words) is fits = absurd (cc)

pub line_within : (head : Head) (line : List ℕ) → head_of_words (words_of line) ≡ Some head → head.size ≤ MAX_CONTENT → length line ≤ 79
line_within head line is fits = subst (λ (l : List ℕ). length l ≤ 79) (spaced-words_of line) (words_short head (words_of line) is fits)

-- what holds of both branches holds of the choice
either : {X : Type 0} (P : X → Type 0) (b : Bool) (x y : X) → (b ≡ true → P x) → (b ≡ false → P y) → P (cond b x y)
either P true x y left right = left refl
either P false x y left right = right refl

-- a record that is not finished is short
abbrev IsShort : ℕ → PartsAt → Type 0
IsShort n (Parts head content behind) = ⊤
IsShort n Short = n ≤ MAX_REST
IsShort n (Faulty fault) = ⊤

ended_short : (n : ℕ) (head : Head) (text found : List ℕ) → drop head.size text ≡ found → (length text ≤ head.size → n ≤ MAX_REST) → IsShort n (parts_of_content head (take head.size text) found)
ended_short n head text [] is fits =
    let dropped : length (drop head.size text) ≡ length text - head.size = length-drop head.size text in
    let none : length (drop head.size text) ≡ 0 = ap (λ (l : List ℕ). length l) is in
    fits (omega arith)
ended_short n head text (b ∷ behind) is fits = either (IsShort n) (eqb b 10) _ _ (λ _. tt) (λ _. tt)

fitting : (n size : ℕ) → nat_lt n size ≡ false → size ≤ n
fitting n size is = grind (arith, nat_tests)

within_rest : (n line rest size : ℕ) → n ≡ line + suc rest → line ≤ 79 → rest ≤ size → size ≤ MAX_CONTENT → n ≤ MAX_REST
within_rest n line rest size all first second third = omega arith

head_short : (n : ℕ) (o : Option Head) (line rest : List ℕ) → head_of_words (words_of line) ≡ o → n ≡ length line + suc (length rest) → IsShort n (parts_of_head o rest)
head_short n None line rest is all = tt
head_short n (Some head) line rest is all =
    either (IsShort n) (nat_lt MAX_CONTENT head.size) _ _ (λ _. tt) (λ low.
    ended_short n head rest (drop head.size rest) refl (λ short. within_rest n (length line) (length rest) head.size all (line_within head line is (fitting MAX_CONTENT head.size low)) short (fitting MAX_CONTENT head.size low)))

line_long : (text line rest : List ℕ) → text ≡ line ++ 10 ∷ rest → length text ≡ length line + suc (length rest)
line_long text line rest is = ap (λ (l : List ℕ). length l) is ∙ length-append line (10 ∷ rest)

parts_short : (text : List ℕ) (at : LineAt) → line_at text ≡ at → IsLineOf text at → IsShort (length text) (parts_of_line at)
parts_short text (Whole line rest) is spelled = head_short (length text) (head_of_words (words_of line)) line rest refl (line_long text line rest spelled.0)
parts_short text Unfinished is spelled = (let short : length text ≤ 512 = unfinished_short text is in omega arith)
parts_short text TooLong is spelled = tt

not_taken : (same right : Bool) (object : Object) (rest : List ℕ) (one other : StreamFault) → cond same (cond right (Taken object rest) (Wrong one)) (Wrong other) ≡ Open → ⊥
not_taken true true object rest one other is = cc
not_taken true false object rest one other is = cc
not_taken false right object rest one other is = cc

record_short : (n : ℕ) (at : PartsAt) → IsShort n at → record_of_parts at ≡ Open → n ≤ MAX_REST
record_short n (Parts head content behind) short is = absurd (not_taken (bytes_eq (object_name (record { kind = head.kind; bytes = content })) head.name) (is_some (object_in head.kind content)) (record { kind = head.kind; bytes = content }) behind (BadObject head.name) (WrongName head.name) is)
record_short n Short short is = short
record_short n (Faulty fault) short is = (let differs : ⊥ = cc in absurd differs)

pub open_short : (text : List ℕ) → record_at text ≡ Open → length text ≤ MAX_REST
unfolding record_at parts_at
open_short text is = record_short (length text) (parts_of_line (line_at text)) (parts_short text (line_at text) refl (line_is text)) is

-- any text awaits 0 bytes
pub awaits_none : (text : List ℕ) (n : ℕ) → n ≡ 0 → Awaits text n
awaits_none text n none = λ more fits. absurd (omega arith)

-- a text of no bytes is empty
no_bytes : (rest : List ℕ) → length rest ≡ 0 → rest ≡ []
no_bytes [] none = refl
no_bytes (b ∷ rest) none = absurd (omega arith)

drop_all : (n : ℕ) (text : List ℕ) → length text ≤ n → drop n text ≡ []
drop_all n text short =
    let dropped : length (drop n text) ≡ length text - n = length-drop n text in
    no_bytes (drop n text) (omega arith)

fits_too : (n size : ℕ) → size ≤ n → nat_lt n size ≡ false
fits_too n size low = grind (arith, nat_tests)

content_open : (head : Head) (text : List ℕ) → head.size ≤ MAX_CONTENT → length text ≤ head.size → content_at head text ≡ Short
content_open head text fits short =
    ap (λ (t : Bool). cond t (Faulty (TooLarge head.name)) (parts_of_content head (take head.size text) (drop head.size text))) (fits_too MAX_CONTENT head.size fits)
    ∙ ap (parts_of_content head (take head.size text)) (drop_all head.size text short)

-- if the line is whole, the content and its LF are wanted
pub awaits_content : (text line rest : List ℕ) (head : Head) (n : ℕ) → line_at text ≡ Whole line rest → head_of_words (words_of line) ≡ Some head → head.size ≤ MAX_CONTENT → n ≡ length line + 2 + head.size → Awaits text n
unfolding record_at parts_at
awaits_content text line rest head n is said fits all = λ more few.
    let spelled : IsLineOf text (Whole line rest) = subst (IsLineOf text) is (line_is text) in
    let grown : length (text ++ more) ≡ length text + length more = length-append text more in
    let long : length text ≡ length line + suc (length rest) = line_long text line rest spelled.0 in
    let behind : length (rest ++ more) ≡ length rest + length more = length-append rest more in
    let short : length (rest ++ more) ≤ head.size = omega arith in
    let later : line_at (text ++ more) ≡ Whole line (rest ++ more) = line_grows text more ∙ ap (λ at. line_longer more at (line_at (text ++ more))) is in
    ap (λ at. record_of_parts (parts_of_line at)) later ∙ ap (λ o. record_of_parts (parts_of_head o (rest ++ more))) said ∙ ap record_of_parts (content_open head (rest ++ more) fits short)

-- the rest of a stream is short
abbrev IsRested : Stream → Type 0
IsRested (Flows commands objects headed rest) = length rest ≤ MAX_REST
IsRested (Breaks fault) = ⊤

behind_rested : (commands : List Command) (objects : List Object) (s : Stream) → IsRested s → IsRested (behind commands objects s)
behind_rested commands objects (Flows others more headed rest) short = short
behind_rested commands objects (Breaks fault) short = tt

records_rested : (most : ℕ) (text : List ℕ) → length text ≤ most → IsRested (records_in most text)
records_rested zero text fits = omega arith
records_rested (suc most) text fits = by (record_at text) refl (λ rest few. records_rested most rest few)
  where
    by : (at : RecordAt) → record_at text ≡ at → ((rest : List ℕ) → length rest ≤ most → IsRested (records_in most rest)) → IsRested (after_record text (records_in most) at)
    by (Taken object rest) is others =
        let shorter : length rest < length text = record_shorter text object rest is in
        behind_rested [] (object ∷ []) (records_in most rest) (others rest (omega arith))
    by Open is others = open_short text is
    by (Wrong fault) is others = tt

command_rested : (text : List ℕ) (others : List ℕ → Stream) (at : Result (Command × List ℕ) CommandFault) → command_at text ≡ at → ((rest : List ℕ) → IsRested (others rest)) → IsRested (after_command text others at)
command_rested text others (Ok found) is short = behind_rested (found.0 ∷ []) [] (others found.1) (short found.1)
command_rested text others (Err command.Syntax) is short = tt
command_rested text others (Err command.TooMany) is short = tt
command_rested text others (Err command.Truncated) is short = cut_short text is

header_rested : (room : ℕ) (text : List ℕ) → IsRested (header_in room text)
header_rested room [] = omega arith
header_rested zero (b ∷ bs) =
    either IsRested (eqb b 10) _ _ (λ _. records_rested (length bs) bs (omega arith)) (λ _. command_rested (b ∷ bs) (λ rest. Breaks TooMany) (command_at (b ∷ bs)) refl (λ rest. tt))
header_rested (suc room) (b ∷ bs) =
    either IsRested (eqb b 10) _ _ (λ _. records_rested (length bs) bs (omega arith)) (λ _. command_rested (b ∷ bs) (header_in room) (command_at (b ∷ bs)) refl (λ rest. header_rested room rest))

flow_short : (s : Stream) → IsRested s → length (rest_in (flow_of s)) ≤ MAX_REST
flow_short (Flows commands objects headed rest) short = short
flow_short (Breaks fault) short = omega arith

pub rest_short : (bytes : List ℕ) → length (rest_in (reading_of bytes).flow) ≤ MAX_REST
unfolding stream_of
rest_short bytes = flow_short (stream_of bytes) (header_rested MAX_COMMANDS bytes)

-- either way
pub awaits_head : (text line rest : List ℕ) (head : Head) (n : ℕ) → line_at text ≡ Whole line rest → head_of_words (words_of line) ≡ Some head
    → (head.size ≤ MAX_CONTENT → n ≡ length line + 2 + head.size) → (MAX_CONTENT < head.size → n ≡ 0) → Awaits text n
awaits_head text line rest head n is said whole large = by (nat_lt MAX_CONTENT head.size) refl
  where
    over : (m size : ℕ) → nat_lt m size ≡ true → m < size
    over m size told = grind (arith, nat_tests)

    by : (t : Bool) → nat_lt MAX_CONTENT head.size ≡ t → Awaits text n
    by true told = awaits_none text n (large (over MAX_CONTENT head.size told))
    by false told = awaits_content text line rest head n is said (fitting MAX_CONTENT head.size told) (whole (fitting MAX_CONTENT head.size told))
