-- Records of objects, as `git cat-file --batch` prints them (git-cat-file(1)): NAME SP TYPE SP SIZE LF, the content, LF.
use Rattle.std.specs.Prelude.{ℕ, ◌==◌, nat_lt, List, [], ◌∷◌, ◌++◌, Option, None, Some, is_some, length, take, drop, decimal, if◌then◌else◌}
use Rattle.std.specs.Str.{bytes_eq}
use Rattle.hex.specs.Hex.{encode_lower}
use Rattle.git_name.specs.declared.kind.Kind.{Kind}
use Rattle.git_name.specs.Kind.{kind_of_word, type_word}
use Rattle.git_name.specs.Name.{name_in}
use Rattle.git_name.specs.Number.{number_in}
use Rattle.git_name.specs.Object.{Object, object_name}
use Rattle.git_name.specs.Text.{words_of}
use Rattle.git_object.specs.ObjectIn.{object_in}
use Rattle.git_reftx.specs.Line.{LineAt, Whole, Unfinished, TooLong, line_at}
use Rattle.push_stream.specs.declared.fault.StreamFault.{StreamFault}
use Rattle.push_stream.specs.declared.record.Head.{Head}
use Rattle.push_stream.specs.declared.content_limit.TheConstants.{MAX_CONTENT}
use Rattle.push_stream.specs.declared.fault.StreamFault.TheVariants.{Syntax, TooLarge, WrongName, BadObject}

-- the record's line, without its LF
abbrev pub record_line : Object → List ℕ
record_line object = encode_lower (object_name object) ++ 32 ∷ type_word object.kind ++ 32 ∷ decimal (length object.bytes)

-- the record of an object
unfoldable pub record_of : Object → List ℕ
record_of object = record_line object ++ 10 ∷ object.bytes ++ 10 ∷ []

abbrev pub head_of_parts : Option (List ℕ) → Option Kind → Option ℕ → Option Head
head_of_parts (Some name) (Some kind) (Some size) = Some (record { name = name; kind = kind; size = size })
head_of_parts (Some name) (Some kind) None = None
head_of_parts (Some name) None size = None
head_of_parts None kind size = None

-- what a record's line says: NAME, TYPE and SIZE
abbrev pub head_of_words : List (List ℕ) → Option Head
head_of_words (digits ∷ word ∷ number ∷ []) = head_of_parts (name_in digits) (kind_of_word word) (number_in number)
head_of_words words = None

-- the parts of the record at the start of a text
pub data PartsAt : Type 0 where
  -- what its line says, the content, and what follows its last LF
  Parts : (head : Head) (content behind : List ℕ) → PartsAt
  -- the beginning of a record that may still become valid, or an empty text
  Short : PartsAt
  -- what is wrong with it
  Faulty : (fault : StreamFault) → PartsAt

-- the parts of a record, if LF follows its content
abbrev pub parts_of_content : Head → List ℕ → List ℕ → PartsAt
parts_of_content head content [] = Short
parts_of_content head content (b ∷ behind) = if b == 10 then Parts head content behind else Faulty Syntax

abbrev pub content_at : Head → List ℕ → PartsAt
content_at head text =
    if nat_lt MAX_CONTENT head.size then Faulty (TooLarge head.name)
    else parts_of_content head (take head.size text) (drop head.size text)

abbrev pub parts_of_head : Option Head → List ℕ → PartsAt
parts_of_head None behind = Faulty Syntax
parts_of_head (Some head) behind = content_at head behind

abbrev pub parts_of_line : LineAt → PartsAt
parts_of_line (Whole line behind) = parts_of_head (head_of_words (words_of line)) behind
parts_of_line Unfinished = Short
parts_of_line TooLong = Faulty Syntax

unfoldable pub parts_at : List ℕ → PartsAt
parts_at text = parts_of_line (line_at text)

-- what is at the start of a text of records
pub data RecordAt : Type 0 where
  -- a valid record's object, and what follows the record
  Taken : (object : Object) (behind : List ℕ) → RecordAt
  -- the beginning of a record that may still become valid, or an empty text
  Open : RecordAt
  -- what is wrong with the record
  Wrong : (fault : StreamFault) → RecordAt

-- the content is in the grammar of its kind
abbrev pub right : List ℕ → Object → List ℕ → RecordAt
right name object behind = if is_some (object_in object.kind object.bytes) then Taken object behind else Wrong (BadObject name)

-- the content has the name that the line gives
abbrev pub named : List ℕ → Object → List ℕ → RecordAt
named name object behind = if bytes_eq (object_name object) name then right name object behind else Wrong (WrongName name)

abbrev pub record_of_parts : PartsAt → RecordAt
record_of_parts (Parts head content behind) = named head.name (record { kind = head.kind; bytes = content }) behind
record_of_parts Short = Open
record_of_parts (Faulty fault) = Wrong fault

-- the record at the start of a text
unfoldable pub record_at : List ℕ → RecordAt
record_at text = record_of_parts (parts_at text)
