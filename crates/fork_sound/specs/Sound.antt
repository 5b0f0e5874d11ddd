-- Whether an object is sound among those that are seen (own): valid in the grammar of its kind, each link seen and of its kind.
use Rattle.std.specs.Prelude.{ℕ, Bool, true, ◌&&◌, ◌||◌, not, List, Option, None, Some, is_none, is_some}
use Rattle.std.specs.List.{list_any}
use Rattle.std.specs.FinMap.{get}
use Rattle.git_name.specs.Object.{Object}
use Rattle.git_name.specs.declared.kind.Kind.{Kind}
use Rattle.git_object.specs.ObjectIn.{links_in, object_in}
use Rattle.git_object.specs.declared.link.Link.{Link}
use Rattle.fork_push.specs.Push.{has_kind}
use Rattle.fork_reach.specs.Source.{Objects, kind_in}

-- the object is known, and has another kind
abbrev pub is_other : Kind → Option Kind → Bool
is_other kind found = is_some found && not (has_kind kind found)

-- what the link names is not seen, or has another kind
abbrev pub is_unmet : Objects → (List ℕ → Bool) → Link → Bool
is_unmet objects seen link = not (seen link.name) || is_other link.kind (kind_in objects link.name)

-- the object breaks its grammar, or a link is not met
abbrev pub is_unsound : Objects → (List ℕ → Bool) → Object → Bool
is_unsound objects seen object = is_none (object_in object.kind object.bytes) || list_any (is_unmet objects seen) (links_in object.kind object.bytes)

-- no object is found, or an unsound one
abbrev pub is_bad_found : Objects → (List ℕ → Bool) → Option Object → Bool
is_bad_found objects seen (Some object) = is_unsound objects seen object
is_bad_found objects seen None = true

abbrev pub is_bad : Objects → (List ℕ → Bool) → List ℕ → Bool
is_bad objects seen name = is_bad_found objects seen (get objects name)
