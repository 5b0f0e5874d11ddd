-- The parents that a history keeps of a commit (own).
use Rattle.std.specs.Prelude.{ℕ, List, [], ◌∷◌}
use Rattle.fork_reach.specs.declared.parents.Parents.{Parents}
use Rattle.fork_reach.specs.declared.parents.Parents.TheVariants.{Root, One, Merge}

-- the names of the parents, in order
abbrev pub parents_listed : Parents → List (List ℕ)
parents_listed Root = []
parents_listed (One parent) = parent ∷ []
parents_listed (Merge parents) = parents.items
