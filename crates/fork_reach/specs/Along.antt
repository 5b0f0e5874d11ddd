-- What a walk follows from an object, along links or along parents (own).
use Rattle.std.specs.Prelude.{ℕ, Bool, true, false, List, map, Option, None, Some}
use Rattle.std.specs.FinMap.{get}
use Rattle.std.specs.Option.{option_map_or}
use Rattle.git_name.specs.declared.kind.Kind.{Kind}
use Rattle.git_name.specs.declared.kind.Kind.TheVariants.{Blob, Tree, Commit, Tag}
use Rattle.git_object.specs.ObjectIn.{links_in}
use Rattle.fork_reach.specs.ParentNames.{parents_in}
use Rattle.fork_reach.specs.declared.along.Along.{Along}
use Rattle.fork_reach.specs.declared.along.Along.TheVariants.{Links, Parents}
use Rattle.fork_reach.specs.Objects.{Measures}
use Rattle.fork_reach.specs.Reach.{linked_names, parent_names}
use Rattle.fork_reach.specs.Source.{Objects}

-- the names that a walk follows from an object of a kind
abbrev pub names_in : Along → Kind → List ℕ → List (List ℕ)
names_in Links kind bytes = map (λ link. link.name) (links_in kind bytes)
names_in Parents kind bytes = parents_in kind bytes

-- the names that a walk follows from the object of a name
abbrev pub names_along : Along → Objects → List ℕ → List (List ℕ)
names_along Links objects = linked_names objects
names_along Parents objects = parent_names objects

-- whether a walk follows nothing from objects of a kind, whatever their bytes are
abbrev pub rests : Along → Kind → Bool
rests Links Blob = true
rests Links Tree = false
rests Links Commit = false
rests Links Tag = false
rests Parents Blob = true
rests Parents Tree = true
rests Parents Commit = false
rests Parents Tag = true

-- the same if it is known what a walk follows, and else `false`
abbrev pub rests_in : Option Along → Kind → Bool
rests_in None kind = false
rests_in (Some along) kind = rests along kind

-- the same for the object of a name
abbrev pub rests_at : Option Along → Measures → List ℕ → Bool
rests_at along measures name = option_map_or (λ m. rests_in along m.0) (get measures name) false
