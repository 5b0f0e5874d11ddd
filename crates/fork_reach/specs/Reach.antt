-- What a walk over objects reaches (own): from roots, along links or along parents.
use Rattle.std.specs.Prelude.{◌≡◌, ℕ, zero, suc, ◌&&◌, ◌||◌, not, Bool, true, List, [], map, Contains, Option, None, Some}
use Rattle.std.specs.List.{list_any}
use Rattle.std.specs.FinMap.{FinMap, get, contains_key, keys, len}
use Rattle.std.specs.Str.{bytes_eq}
use Rattle.git_name.specs.Name.{name_cmp}
use Rattle.git_name.specs.Object.{Object}
use Rattle.fork_reach.specs.ParentNames.{parents_in}
use Rattle.git_object.specs.declared.link.Link.{Link}
use Rattle.git_object.specs.ObjectIn.{links_in}
use Rattle.fork_reach.specs.Source.{Objects}

-- the links of an object, if there is one
abbrev pub links_of_found : Option Object → List Link
links_of_found None = []
links_of_found (Some object) = links_in object.kind object.bytes

-- the names that the object of a name links to, in order
abbrev pub linked_names : Objects → List ℕ → List (List ℕ)
linked_names objects name = map (λ link. link.name) (links_of_found (get objects name))

-- the parents of an object, if there is one
abbrev pub parents_of_found : Option Object → List (List ℕ)
parents_of_found None = []
parents_of_found (Some object) = parents_in object.kind object.bytes

-- the names of the parents of the commit of a name, in order
abbrev pub parent_names : Objects → List ℕ → List (List ℕ)
parent_names objects name = parents_of_found (get objects name)

-- a name is reached: its object is there, and it is a root or follows from a reached name
pub data IsReached {X : Type 0} (next : List ℕ → List (List ℕ)) (objects : FinMap name_cmp X) (roots : List (List ℕ)) : List ℕ → Type 0 where
  Root : (name : List ℕ) → Contains roots name → contains_key objects name ≡ true → IsReached next objects roots name
  Next : (from name : List ℕ) → IsReached next objects roots from → Contains (next from) name → contains_key objects name ≡ true → IsReached next objects roots name

-- whether a name is one of these
abbrev pub is_among : List (List ℕ) → List ℕ → Bool
is_among names name = list_any (bytes_eq name) names

-- whether a name is reached from a root in at most this many steps, over objects that are there
abbrev pub leads_within : {X : Type 0} → (List ℕ → List (List ℕ)) → FinMap name_cmp X → List (List ℕ) → ℕ → List ℕ → Bool
leads_within next objects roots zero name = contains_key objects name && is_among roots name
leads_within next objects roots (suc most) name =
    leads_within next objects roots most name
    || contains_key objects name && list_any (λ from. leads_within next objects roots most from && is_among (next from) name) (keys objects)

-- whether a name is reached at all: no more steps are needed than there are objects
unfoldable pub is_reached : {X : Type 0} → (List ℕ → List (List ℕ)) → FinMap name_cmp X → List (List ℕ) → List ℕ → Bool
is_reached next objects roots name = leads_within next objects roots (len objects) name

-- whether a name is reached from a wanted one, and from no excluded one
abbrev pub is_between : {X : Type 0} → (List ℕ → List (List ℕ)) → FinMap name_cmp X → List (List ℕ) → List (List ℕ) → List ℕ → Bool
is_between next objects wanted excluded name = is_reached next objects wanted name && not (is_reached next objects excluded name)
