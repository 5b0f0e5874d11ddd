use Rattle.std.proofs.Common.{◌≡◌, ◌++◌, List, ℕ, map, length}
use Rattle.std.specs.List.{flat_map, AllByRecursion}
use Rattle.git_name.specs.Name.{IsName}
use Rattle.git_name.specs.Text.{ended}
use Rattle.git_commit.specs.Commit.{parent_line}
use Rattle.git_commit.proofs.parents.take_parents.Given as goal

-- what was read is lines of parents
abbrev pub invariant-lines : goal.invariant-lines
invariant-lines l = (names : List (List ℕ)) × AllByRecursion IsName names × (l.text ≡ flat_map ended (map parent_line names) ++ l.rest)

abbrev pub decreases-lines : goal.decreases-lines
decreases-lines l = length l.rest
