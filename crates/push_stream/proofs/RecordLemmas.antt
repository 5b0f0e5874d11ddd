-- A record takes at least one byte.
use Rattle.std.proofs.Common.{◌≡◌, ℕ, suc, ◌<◌, ◌≤◌, ◌+◌, Bool, true, false, cond, eqb, List, [], ◌∷◌, ◌++◌, Option, Some, None, refl, ap, subst, ◌∙◌, is_some, length, length-append, length-drop, drop, take, arith}
use Rattle.std.specs.Str.{bytes_eq}
use Rattle.std.specs.Prelude.{nat_le, nat_lt}
use Rattle.git_name.specs.Object.{Object, object_name}
use Rattle.git_name.specs.Text.{split_once, words_of}
use Rattle.git_name.proofs.TextLemmas.{split_once-whole}
use Rattle.git_object.specs.ObjectIn.{object_in}
use Rattle.git_reftx.specs.Line.{LineAt, Whole, Unfinished, TooLong, line_at, line_of_parts}
use Rattle.push_stream.specs.declared.fault.StreamFault.TheVariants.{BadObject}
use Rattle.push_stream.specs.declared.record.Head.{Head}
use Rattle.push_stream.specs.declared.content_limit.TheConstants.{MAX_CONTENT}
use Rattle.push_stream.specs.Record.{PartsAt, Parts, Short, Faulty, RecordAt, Taken, Open, Wrong, parts_at, parts_of_line, parts_of_head, content_at, parts_of_content, head_of_words, record_at, record_of_parts}

-- what holds of both branches holds of the choice
either : {X : Type 0} (f : X → ℕ) (n : ℕ) (b : Bool) (x y : X) → f x ≤ n → f y ≤ n → f (cond b x y) ≤ n
either f n true x y left right = left
either f n false x y left right = right

-- the bytes from a line's LF on
abbrev from_line : LineAt → ℕ
from_line (Whole line behind) = suc (length behind)
from_line Unfinished = 0
from_line TooLong = 0

-- the bytes from a record's last LF on
abbrev from_parts : PartsAt → ℕ
from_parts (Parts head content behind) = suc (length behind)
from_parts Short = 0
from_parts (Faulty fault) = 0

-- the bytes from the last LF of a judged record on
abbrev from_record : RecordAt → ℕ
from_record (Taken object behind) = suc (length behind)
from_record Open = 0
from_record (Wrong fault) = 0

-- what follows a line's LF is shorter
behind_line : (text line behind : List ℕ) → text ≡ line ++ 10 ∷ behind → suc (length behind) ≤ length text
behind_line text line behind is =
    let whole : length text ≡ length line + length (10 ∷ behind) = ap (λ (l : List ℕ). length l) is ∙ length-append line (10 ∷ behind) in
    omega arith

-- the line at the front of a text
in_line : (text : List ℕ) (o : Option (List ℕ × List ℕ)) → split_once 10 text ≡ o → from_line (line_of_parts text o) ≤ length text
in_line text None is = either from_line (length text) (nat_le (length text) 512) Unfinished TooLong (omega arith) (omega arith)
in_line text (Some (line, behind)) is = either from_line (length text) (nat_le (length line) 512) (Whole line behind) TooLong (behind_line text line behind (split_once-whole 10 text line behind is)) (omega arith)

-- a content ends in the text
in_ended : (head : Head) (content text : List ℕ) → from_parts (parts_of_content head content text) ≤ length text
in_ended head content [] = omega arith
in_ended head content (b ∷ behind) = either from_parts (length (b ∷ behind)) (eqb b 10) (Parts head content behind) _ (omega arith) (omega arith)

-- a content is within the text
in_content : (head : Head) (text : List ℕ) → from_parts (content_at head text) ≤ length text
in_content head text =
    let shorter : length (drop head.size text) ≤ length text = (let is = length-drop head.size text in omega arith) in
    let inside = in_ended head (take head.size text) (drop head.size text) in
    either from_parts (length text) (nat_lt MAX_CONTENT head.size) _ _ (omega arith) (omega arith)

-- the same, by what the line says
in_head : (o : Option Head) (text : List ℕ) → from_parts (parts_of_head o text) ≤ length text
in_head None text = omega arith
in_head (Some head) text = in_content head text

-- the same, by the line
in_parts : (n : ℕ) (at : LineAt) → from_line at ≤ n → from_parts (parts_of_line at) ≤ n
in_parts n (Whole line behind) fits = (let inside = in_head (head_of_words (words_of line)) behind in omega arith)
in_parts n Unfinished fits = omega arith
in_parts n TooLong fits = omega arith

-- the same, by the record's parts
in_record : (n : ℕ) (at : PartsAt) → from_parts at ≤ n → from_record (record_of_parts at) ≤ n
in_record n (Parts head content behind) fits =
    let object : Object = record { kind = head.kind; bytes = content } in
    either from_record n (bytes_eq (object_name object) head.name) _ _ (either from_record n (is_some (object_in head.kind content)) (Taken object behind) (Wrong (BadObject head.name)) fits (omega arith)) (omega arith)
in_record n Short fits = omega arith
in_record n (Faulty fault) fits = omega arith

-- the record is within the text
within : (text : List ℕ) → from_record (record_at text) ≤ length text
unfolding record_at parts_at line_at
within text = in_record (length text) (parts_at text) (in_parts (length text) (line_at text) (in_line text (split_once 10 text) refl))

-- what follows a record is shorter
pub record_shorter : (text : List ℕ) (object : Object) (behind : List ℕ) → record_at text ≡ Taken object behind → length behind < length text
record_shorter text object behind is =
    let fits : from_record (Taken object behind) ≤ length text = subst (λ at. from_record at ≤ length text) is (within text) in
    omega arith
