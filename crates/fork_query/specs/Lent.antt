-- Borrowed objects, each with its name, and their records.
use Rattle.std.specs.Prelude.{◌≡◌, ℕ, List, IsTrue, Some, map}
use Rattle.std.specs.FinMap.{get}
use Rattle.git_name.specs.Object.{Object, object_name}
use Rattle.push_stream.specs.Record.{record_of}
use Rattle.fork_reach.specs.Source.{SourceState}
use Rattle.fork_query.specs.declared.lent.Lent.{Lent}

-- the object
abbrev pub object_lent : Lent → Object
object_lent lent = record { kind = lent.kind; bytes = lent.bytes.now }

-- its name is the name of its object
abbrev pub HasOwnName : Lent → Type 0
HasOwnName lent = object_name (object_lent lent) ≡ lent.name

-- the source is honest and has the object under its name
abbrev pub IsLent : {Base Rest : Type 0} → SourceState Base Rest → Lent → Type 0
IsLent state lent = IsTrue state.honest × (get state.objects lent.name ≡ Some (object_lent lent)) × HasOwnName lent

-- the names of borrowed objects
abbrev pub lent_names : List Lent → List (List ℕ)
lent_names lent = map (λ one. one.name) lent

-- its record
abbrev pub record_lent : Lent → List ℕ
record_lent lent = record_of (object_lent lent)
