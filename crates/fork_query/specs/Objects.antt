-- The record of an object, and lines of names (git-cat-file(1), git-rev-list(1)).
use Rattle.std.specs.Prelude.{◌≡◌, ℕ, List, ◌++◌, Option, None, Some, Result, Ok, Err, codes}
use Rattle.std.specs.List.{flat_map}
use Rattle.std.specs.FinMap.{get}
use Rattle.hex.specs.Hex.{encode_lower}
use Rattle.git_name.specs.Object.{Object, object_name}
use Rattle.push_stream.specs.Record.{record_of}
use Rattle.fork_reach.specs.Source.{Objects}
use Rattle.fork_request.specs.declared.refusal.Refusal.{Refusal}
use Rattle.fork_request.specs.declared.refusal.Refusal.TheVariants.{Missing}

-- `cat-file NAME`: the record of the object
abbrev pub record_found : List ℕ → Option Object → Result (List ℕ) Refusal
record_found name None = Err (Missing name)
record_found name (Some object) = Ok (record_of object)

unfoldable pub object_told : Objects → List ℕ → Result (List ℕ) Refusal
object_told objects name = record_found name (get objects name)

-- the text is the record of an object of this name
abbrev pub IsRecordUnder : List ℕ → List ℕ → Type 0
IsRecordUnder name text = (object : Object) × (object_name object ≡ name) × (text ≡ record_of object)

-- the text is a list of records of objects, each with its object's own name
abbrev pub AreRecords : List ℕ → Type 0
AreRecords text = (objects : List Object) × (text ≡ flat_map record_of objects)

-- each name in digits, and LF
abbrev pub name_line : List ℕ → List ℕ
name_line name = encode_lower name ++ codes "\n"

abbrev pub name_lines : List (List ℕ) → List ℕ
name_lines names = flat_map name_line names
