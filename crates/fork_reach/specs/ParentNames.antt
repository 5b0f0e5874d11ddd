-- The parents of an object (own).
use Rattle.std.specs.Prelude.{ℕ, List, [], Option, None, Some}
use Rattle.git_name.specs.declared.kind.Kind.{Kind}
use Rattle.git_name.specs.declared.kind.Kind.TheVariants.{Blob, Tree, Commit, Tag}
use Rattle.git_commit.specs.Commit.{CommitValue}
use Rattle.git_commit.specs.CommitIn.{commit_in}

-- the parents of a commit, if there is one
abbrev pub parents_or_none : Option CommitValue → List (List ℕ)
parents_or_none None = []
parents_or_none (Some commit) = commit.parents

-- the parents of the commit with these bytes; any other object has none
abbrev pub parents_in : Kind → List ℕ → List (List ℕ)
parents_in Blob bytes = []
parents_in Tree bytes = []
parents_in Commit bytes = parents_or_none (commit_in bytes)
parents_in Tag bytes = []
