-- The list of references (git-for-each-ref(1); the form of its rows is own): NAME SP TYPE TAB REF LF, ascending by REF.
use Rattle.std.specs.Prelude.{ℕ, Bool, true, ◌||◌, ◌&&◌, List, [], ◌++◌, Option, None, Some, codes, drop, length, if◌then◌else◌}
use Rattle.std.specs.List.{flat_map}
use Rattle.std.specs.FinMap.{entries}
use Rattle.std.specs.Str.{bytes_eq}
use Rattle.hex.specs.Hex.{encode_lower}
use Rattle.git_name.specs.declared.kind.Kind.{Kind}
use Rattle.git_name.specs.Kind.{type_word}
use Rattle.git_refname.specs.Rule.{begins, ends}
use Rattle.git_reftx.specs.Transaction.{References}
use Rattle.fork_reach.specs.Source.{Objects, kind_in}

-- the reference is the prefix, or begins with the prefix and a `/`, which the prefix may include
abbrev pub matches : List ℕ → List ℕ → Bool
matches prefix reference = bytes_eq reference prefix || (begins prefix reference && (ends (codes "/") prefix || begins (codes "/") (drop (length prefix) reference)))

-- whether a reference is wanted; without a prefix all are
abbrev pub is_asked : Option (List ℕ) → List ℕ → Bool
is_asked None reference = true
is_asked (Some prefix) reference = matches prefix reference

-- a reference and the object that it points at
abbrev pub reference_row : List ℕ → List ℕ → Kind → List ℕ
reference_row reference target kind = encode_lower target ++ codes " " ++ type_word kind ++ codes "\t" ++ reference ++ codes "\n"

-- a row, if the object exists
abbrev pub row_of : List ℕ → List ℕ → Option Kind → List ℕ
row_of reference target (Some kind) = reference_row reference target kind
row_of reference target None = []

-- the row of a reference if it is wanted
abbrev pub row_in : Objects → Option (List ℕ) → List ℕ × List ℕ → List ℕ
row_in objects prefix entry = if is_asked prefix entry.0 then row_of entry.0 entry.1 (kind_in objects entry.1) else []

-- the rows of a repository's references, ascending by name
unfoldable pub listing : Objects → References → Option (List ℕ) → List ℕ
listing objects references prefix = flat_map (row_in objects prefix) (entries references)
