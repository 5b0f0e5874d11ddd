-- Objects added to others, the use of objects, and what no store can change about them (own).
use Rattle.std.specs.Prelude.{◌≡◌, ℕ, ◌+◌, List, [], ◌∷◌, Some, length, sum_by, if◌then◌else◌}
use Rattle.std.specs.FinMap.{FinMap, get, insert, contains_key, values}
use Rattle.fork_reach.specs.declared.usage.TheConstants.{OBJECT_USE}
use Rattle.git_name.specs.Maps.{map_values}
use Rattle.git_name.specs.Name.{name_cmp}
use Rattle.git_name.specs.declared.kind.Kind.{Kind}
use Rattle.git_name.specs.Object.{Object, object_name}
use Rattle.fork_reach.specs.Source.{Objects}

-- each object is under its own name
abbrev pub IsNamed : Objects → Type 0
IsNamed objects = (name : List ℕ) (object : Object) → get objects name ≡ Some object → object_name object ≡ name

-- objects with one more added, unless there is one of its name
abbrev pub with_object : Objects → Object → Objects
with_object objects object = if contains_key objects (object_name object) then objects else insert objects (object_name object) object

-- objects with each of these added; if several have one name, the one that is there stays, or else the first
abbrev pub with_objects : Objects → List Object → Objects
with_objects objects [] = objects
with_objects objects (object ∷ sent) = with_objects (with_object objects object) sent

-- the use of an object: its length, and a fixed number of bytes
abbrev pub use_of_object : Object → ℕ
use_of_object object = length object.bytes + OBJECT_USE

-- the use of all these objects
unfoldable pub use_of : Objects → ℕ
use_of objects = sum_by use_of_object (values objects)

-- what no store can change about an object: its kind and its length
abbrev pub measure_of : Object → Kind × ℕ
measure_of object = (object.kind, length object.bytes)

-- kinds and lengths by name
abbrev pub Measures : Type 0
Measures = FinMap name_cmp (Kind × ℕ)

-- the names of objects with their kinds and lengths
abbrev pub measures_of : Objects → Measures
measures_of objects = map_values measure_of objects
