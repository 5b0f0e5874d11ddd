-- What a longer text has at its start is what its own prefix has, if that is decided.
use Rattle.std.proofs.Common.{◌≡◌, ℕ, zero, suc, ◌+◌, Bool, true, false, cond, eqb, List, [], ◌∷◌, ◌++◌, Option, Some, None, refl, sym, ap, ap₂, ◌∙◌, is_some, option_map, length, length-append, drop, take, arith}
use Rattle.std.specs.Str.{bytes_eq}
use Rattle.std.specs.Prelude.{nat_le, nat_lt}
use Rattle.std.proofs.lemmas.Bool.Decides.{nat_tests}
use Rattle.git_name.specs.Object.{Object, object_name}
use Rattle.git_name.specs.Text.{split_once, words_of}
use Rattle.git_object.specs.ObjectIn.{object_in}
use Rattle.git_reftx.specs.Line.{LineAt, Whole, Unfinished, TooLong, line_at, line_of_parts, within_512}
use Rattle.push_stream.specs.declared.fault.StreamFault.TheVariants.{Syntax, TooLarge, WrongName, BadObject}
use Rattle.push_stream.specs.declared.record.Head.{Head}
use Rattle.push_stream.specs.declared.content_limit.TheConstants.{MAX_CONTENT}
use Rattle.push_stream.specs.Record.{PartsAt, Parts, Short, Faulty, RecordAt, Taken, Open, Wrong, parts_at, parts_of_line, parts_of_head, content_at, parts_of_content, head_of_words, record_at, record_of_parts}

-- a longer text is split where its front is, or else after it
abbrev split_longer : ℕ → List ℕ → List ℕ → Option (List ℕ × List ℕ) → Option (List ℕ × List ℕ)
split_longer byte xs ys (Some p) = Some (p.0, p.1 ++ ys)
split_longer byte xs ys None = option_map (λ p. (xs ++ p.0, p.1)) (split_once byte ys)

-- nothing put before the first part
same_parts : (o : Option (List ℕ × List ℕ)) → o ≡ option_map (λ p. (p.0, p.1)) o
same_parts None = refl
same_parts (Some p) = refl

-- one more byte put before the first part
longer_parts : (b : ℕ) (xs : List ℕ) (o : Option (List ℕ × List ℕ)) → option_map {U = List ℕ × List ℕ} (λ p. (b ∷ p.0, p.1)) (option_map {U = List ℕ × List ℕ} (λ p. (xs ++ p.0, p.1)) o) ≡ option_map (λ p. (b ∷ (xs ++ p.0), p.1)) o
longer_parts b xs None = refl
longer_parts b xs (Some p) = refl

-- one byte more at the front
split_step : (byte b : ℕ) (xs ys : List ℕ) (t : Bool) (o later : Option (List ℕ × List ℕ)) → later ≡ split_longer byte xs ys o
    → cond {A = Option (List ℕ × List ℕ)} t (Some ([], xs ++ ys)) (option_map (λ p. (b ∷ p.0, p.1)) later) ≡ split_longer byte (b ∷ xs) ys (cond {A = Option (List ℕ × List ℕ)} t (Some ([], xs)) (option_map (λ p. (b ∷ p.0, p.1)) o))
split_step byte b xs ys true o later is = refl
split_step byte b xs ys false (Some p) later is = ap (option_map {U = List ℕ × List ℕ} (λ q. (b ∷ q.0, q.1))) is
split_step byte b xs ys false None later is = ap (option_map {U = List ℕ × List ℕ} (λ q. (b ∷ q.0, q.1))) is ∙ longer_parts b xs (split_once byte ys)

-- the longer text is split so
split_grows : (byte : ℕ) (xs ys : List ℕ) → split_once byte (xs ++ ys) ≡ split_longer byte xs ys (split_once byte xs)
split_grows byte [] ys = same_parts (split_once byte ys)
split_grows byte (b ∷ xs) ys = split_step byte b xs ys (eqb b byte) (split_once byte xs) (split_once byte (xs ++ ys)) (split_grows byte xs ys)

-- what is decided of a line is kept
abbrev pub line_longer : List ℕ → LineAt → LineAt → LineAt
line_longer ys (Whole line behind) later = Whole line (behind ++ ys)
line_longer ys Unfinished later = later
line_longer ys TooLong later = TooLong

-- a line that is split off keeps its length
whole_grows : (ys line behind : List ℕ) (t : Bool) (later : LineAt) → cond t (Whole line (behind ++ ys)) TooLong ≡ line_longer ys (cond t (Whole line behind) TooLong) later
whole_grows ys line behind true later = refl
whole_grows ys line behind false later = refl

-- a line of more than 512 bytes
too_long : (line : List ℕ) (right : LineAt) → nat_le (length line) 512 ≡ false → within_512 line right ≡ TooLong
too_long line right is = ap (λ (t : Bool). cond t right TooLong) is

-- more bytes make no line shorter
still_long : (xs more : List ℕ) → nat_le (length xs) 512 ≡ false → nat_le (length (xs ++ more)) 512 ≡ false
still_long xs more is =
    let sized : length (xs ++ more) ≡ length xs + length more = length-append xs more in
    grind (arith, nat_tests)

-- 513 bytes without LF are too long, whatever comes
long_grows : (xs ys : List ℕ) (o : Option (List ℕ × List ℕ)) → nat_le (length xs) 512 ≡ false → line_of_parts (xs ++ ys) (option_map (λ p. (xs ++ p.0, p.1)) o) ≡ TooLong
long_grows xs ys None is = too_long (xs ++ ys) Unfinished (still_long xs ys is)
long_grows xs ys (Some p) is = too_long (xs ++ p.0) (Whole (xs ++ p.0) p.1) (still_long xs p.0 is)

-- a line that is not split off yet
open_grows : (xs ys : List ℕ) (o : Option (List ℕ × List ℕ)) (t : Bool) → nat_le (length xs) 512 ≡ t
    → line_of_parts (xs ++ ys) (option_map (λ p. (xs ++ p.0, p.1)) o) ≡ line_longer ys (cond t Unfinished TooLong) (line_of_parts (xs ++ ys) (option_map (λ p. (xs ++ p.0, p.1)) o))
open_grows xs ys o true is = refl
open_grows xs ys o false is = long_grows xs ys o is

-- by how the front is split
line_by : (xs ys : List ℕ) (o : Option (List ℕ × List ℕ)) → line_of_parts (xs ++ ys) (split_longer 10 xs ys o) ≡ line_longer ys (line_of_parts xs o) (line_of_parts (xs ++ ys) (split_longer 10 xs ys o))
line_by xs ys None = open_grows xs ys (split_once 10 ys) (nat_le (length xs) 512) refl
line_by xs ys (Some (line, behind)) = whole_grows ys line behind (nat_le (length line) 512) _

-- the line at the front of the longer text
pub line_grows : (xs ys : List ℕ) → line_at (xs ++ ys) ≡ line_longer ys (line_at xs) (line_at (xs ++ ys))
unfolding line_at
line_grows xs ys =
    let same = ap (line_of_parts (xs ++ ys)) (split_grows 10 xs ys) in
    same ∙ line_by xs ys (split_once 10 xs) ∙ ap (line_longer ys (line_of_parts xs (split_once 10 xs))) (sym same)

-- what is decided of a record's parts is kept
abbrev parts_longer : List ℕ → PartsAt → PartsAt → PartsAt
parts_longer ys (Parts head content behind) later = Parts head content (behind ++ ys)
parts_longer ys Short later = later
parts_longer ys (Faulty fault) later = Faulty fault

-- the byte after the content decides alone
ended_by : (ys : List ℕ) (head : Head) (content behind : List ℕ) (t : Bool) (later : PartsAt) → cond t (Parts head content (behind ++ ys)) (Faulty Syntax) ≡ parts_longer ys (cond t (Parts head content behind) (Faulty Syntax)) later
ended_by ys head content behind true later = refl
ended_by ys head content behind false later = refl

-- a text that is split at a place within it
drop_longer : (n : ℕ) (t ys : List ℕ) (b : ℕ) (behind : List ℕ) → drop n t ≡ b ∷ behind → drop n (t ++ ys) ≡ b ∷ (behind ++ ys)
drop_longer zero t ys b behind is = ap (λ (l : List ℕ). l ++ ys) is
drop_longer (suc n) [] ys b behind is = absurd (cc)
drop_longer (suc n) (c ∷ t) ys b behind is = drop_longer n t ys b behind is

-- and the part before that place
take_longer : (n : ℕ) (t ys : List ℕ) (b : ℕ) (behind : List ℕ) → drop n t ≡ b ∷ behind → take n (t ++ ys) ≡ take n t
take_longer zero t ys b behind is = refl
take_longer (suc n) [] ys b behind is = absurd (cc)
take_longer (suc n) (c ∷ t) ys b behind is = ap (λ (l : List ℕ). c ∷ l) (take_longer n t ys b behind is)

-- a content that is whole stays so
ended_grows : (head : Head) (n : ℕ) (t ys rest : List ℕ) → drop n t ≡ rest → parts_of_content head (take n (t ++ ys)) (drop n (t ++ ys)) ≡ parts_longer ys (parts_of_content head (take n t) rest) (parts_of_content head (take n (t ++ ys)) (drop n (t ++ ys)))
ended_grows head n t ys [] is = refl
ended_grows head n t ys (b ∷ behind) is =
    ap₂ (parts_of_content head) (take_longer n t ys b behind is) (drop_longer n t ys b behind is) ∙ ended_by ys head (take n t) behind (eqb b 10) _

-- a size that is too large stays so
sized_by : (ys : List ℕ) (t : Bool) (wrong cut whole : PartsAt) → wrong ≡ parts_longer ys wrong wrong → whole ≡ parts_longer ys cut whole → cond t wrong whole ≡ parts_longer ys (cond t wrong cut) (cond t wrong whole)
sized_by ys true wrong cut whole first second = first
sized_by ys false wrong cut whole first second = second

-- the content in the longer text
content_grows : (head : Head) (t ys : List ℕ) → content_at head (t ++ ys) ≡ parts_longer ys (content_at head t) (content_at head (t ++ ys))
content_grows head t ys =
    sized_by ys (nat_lt MAX_CONTENT head.size) (Faulty (TooLarge head.name)) (parts_of_content head (take head.size t) (drop head.size t)) (parts_of_content head (take head.size (t ++ ys)) (drop head.size (t ++ ys))) refl (ended_grows head head.size t ys (drop head.size t) refl)

-- the same, by what the line says
head_grows : (o : Option Head) (t ys : List ℕ) → parts_of_head o (t ++ ys) ≡ parts_longer ys (parts_of_head o t) (parts_of_head o (t ++ ys))
head_grows None t ys = refl
head_grows (Some head) t ys = content_grows head t ys

-- the same, by the line
parts_by : (ys : List ℕ) (at later : LineAt) → parts_of_line (line_longer ys at later) ≡ parts_longer ys (parts_of_line at) (parts_of_line (line_longer ys at later))
parts_by ys (Whole line behind) later = head_grows (head_of_words (words_of line)) behind ys
parts_by ys Unfinished later = refl
parts_by ys TooLong later = refl

-- the parts of the record at the front of the longer text
parts_grow : (xs ys : List ℕ) → parts_at (xs ++ ys) ≡ parts_longer ys (parts_at xs) (parts_at (xs ++ ys))
unfolding parts_at
parts_grow xs ys =
    let same = ap parts_of_line (line_grows xs ys) in
    same ∙ parts_by ys (line_at xs) (line_at (xs ++ ys)) ∙ ap (parts_longer ys (parts_of_line (line_at xs))) (sym same)

-- what is decided of a record is kept
abbrev pub record_longer : List ℕ → RecordAt → RecordAt → RecordAt
record_longer ys (Taken object behind) later = Taken object (behind ++ ys)
record_longer ys Open later = later
record_longer ys (Wrong fault) later = Wrong fault

-- what is judged of a whole content stays so
named_by : (ys name : List ℕ) (object : Object) (behind : List ℕ) (same right : Bool) (later : RecordAt)
    → cond same (cond right (Taken object (behind ++ ys)) (Wrong (BadObject name))) (Wrong (WrongName name)) ≡ record_longer ys (cond same (cond right (Taken object behind) (Wrong (BadObject name))) (Wrong (WrongName name))) later
named_by ys name object behind true true later = refl
named_by ys name object behind true false later = refl
named_by ys name object behind false right later = refl

-- the same, by the record's parts
record_by : (ys : List ℕ) (at later : PartsAt) → record_of_parts (parts_longer ys at later) ≡ record_longer ys (record_of_parts at) (record_of_parts (parts_longer ys at later))
record_by ys (Parts head content behind) later =
    let object : Object = record { kind = head.kind; bytes = content } in
    named_by ys head.name object behind (bytes_eq (object_name object) head.name) (is_some (object_in head.kind content)) _
record_by ys Short later = refl
record_by ys (Faulty fault) later = refl

-- the record at the front of the longer text
pub record_grows : (xs ys : List ℕ) → record_at (xs ++ ys) ≡ record_longer ys (record_at xs) (record_at (xs ++ ys))
unfolding record_at
record_grows xs ys =
    let same = ap record_of_parts (parts_grow xs ys) in
    same ∙ record_by ys (parts_at xs) (parts_at (xs ++ ys)) ∙ ap (record_longer ys (record_of_parts (parts_at xs))) (sym same)
