-- What a name peels to (gitrevisions(7), `^{}`).
use Rattle.std.specs.Prelude.{◌≡◌, ℕ, zero, suc, List, Option, None, Some}
use Rattle.std.specs.Option.{option_map}
use Rattle.std.specs.FinMap.{get, len}
use Rattle.git_name.specs.declared.kind.Kind.{Kind}
use Rattle.git_name.specs.declared.kind.Kind.TheVariants.{Blob, Tree, Commit, Tag}
use Rattle.git_name.specs.Object.{Object}
use Rattle.git_object.specs.TagIn.{tag_in}
use Rattle.fork_reach.specs.Source.{Objects}

-- the target of the tag with these bytes; any other object has none
abbrev pub target_in : Kind → List ℕ → Option (List ℕ)
target_in Blob bytes = None
target_in Tree bytes = None
target_in Commit bytes = None
target_in Tag bytes = option_map (λ tag. tag.object) (tag_in bytes)

-- the target of an object, if there is one
abbrev pub target_of_found : Option Object → Option (List ℕ)
target_of_found None = None
target_of_found (Some object) = target_in object.kind object.bytes

-- the target of the tag of a name
abbrev pub tag_target : Objects → List ℕ → Option (List ℕ)
tag_target objects name = target_of_found (get objects name)

-- tags lead from a name to one that is not the name of a tag
pub data LeadsTo (objects : Objects) (end : List ℕ) : List ℕ → Type 0 where
  Ends : tag_target objects end ≡ None → LeadsTo objects end end
  Follows : (name target : List ℕ) → tag_target objects name ≡ Some target → LeadsTo objects end target → LeadsTo objects end name

-- one step: a name without a target stays, and any other is followed
abbrev pub followed : (List ℕ → Option (List ℕ)) → List ℕ → Option (List ℕ) → Option (List ℕ)
followed peel name None = Some name
followed peel name (Some target) = peel target

-- where tags lead in fewer than this many steps
abbrev pub peeled_within : Objects → ℕ → List ℕ → Option (List ℕ)
peeled_within objects zero name = None
peeled_within objects (suc most) name = followed (peeled_within objects most) name (tag_target objects name)

-- where tags lead, or nowhere if they are a cycle; no more steps are needed than there are objects
unfoldable pub peeled : Objects → List ℕ → Option (List ℕ)
peeled objects name = peeled_within objects (suc (len objects)) name
