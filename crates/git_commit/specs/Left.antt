-- What the iterator of parents has left.
use Rattle.std.specs.Prelude.{ℕ, List}
use Rattle.git_commit.specs.declared.parents.Parents.{Parents}
use Rattle.git_commit.specs.Parents.{parents_spelled}

abbrev pub parents_left : Parents → List (List ℕ)
parents_left parents = parents_spelled parents.rest.now
