-- Best common ancestors in a history in memory, by one step along parents (own).
use Rattle.std.specs.Prelude.{ℕ, ◌&&◌, not, Bool, List, [], ◌∷◌}
use Rattle.std.specs.List.{list_any}
use Rattle.std.specs.Str.{bytes_eq}
use Rattle.std.specs.FinMap.{keys}
use Rattle.fork_reach.specs.History.{Notes, noted_parents}
use Rattle.fork_reach.specs.Reach.{is_among, is_reached}

abbrev pub is_ancestor_noted : Notes → List ℕ → List ℕ → Bool
is_ancestor_noted notes descendant name = is_reached (noted_parents notes) notes (descendant ∷ []) name

abbrev pub is_common_noted : Notes → List ℕ → List ℕ → List ℕ → Bool
is_common_noted notes a b name = is_ancestor_noted notes b name && is_ancestor_noted notes a name

-- whether a commit has a name other than its own as a parent
abbrev pub is_other_parent : Notes → List ℕ → List ℕ → Bool
is_other_parent notes name commit = not (bytes_eq commit name) && is_among (noted_parents notes commit) name

-- whether it is a common ancestor, and no parent of another common one
abbrev pub is_best_noted : Notes → List ℕ → List ℕ → List ℕ → Bool
is_best_noted notes a b name = not (list_any (λ other. is_common_noted notes a b other && is_other_parent notes name other) (keys notes)) && is_common_noted notes a b name
