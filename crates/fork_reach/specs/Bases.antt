-- Best common ancestors by one step along parents (own).
use Rattle.std.specs.Prelude.{◌&&◌, not, ℕ, Bool, List, [], ◌∷◌}
use Rattle.std.specs.FinMap.{keys}
use Rattle.std.specs.List.{list_any}
use Rattle.std.specs.Str.{bytes_eq}
use Rattle.fork_reach.specs.Reach.{is_among, is_reached, parent_names}
use Rattle.fork_reach.specs.Source.{Objects}

-- a commit is its own ancestor
abbrev pub is_ancestor : Objects → List ℕ → List ℕ → Bool
is_ancestor objects descendant name = is_reached (parent_names objects) objects (descendant ∷ []) name

abbrev pub is_common_of : Objects → List ℕ → List ℕ → List ℕ → Bool
is_common_of objects a b name = is_ancestor objects b name && is_ancestor objects a name

-- whether a commit has a name other than its own as a parent
abbrev pub is_parent_of : Objects → List ℕ → List ℕ → Bool
is_parent_of objects commit name = not (bytes_eq commit name) && is_among (parent_names objects commit) name

-- whether it is a common ancestor, and no parent of another common one
abbrev pub is_best_of : Objects → List ℕ → List ℕ → List ℕ → Bool
is_best_of objects a b name = not (list_any (λ other. is_common_of objects a b other && is_parent_of objects other name) (keys objects)) && is_common_of objects a b name
