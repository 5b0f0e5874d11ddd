use Rattle.std.proofs.Common.{◌≡◌, ◌++◌, List, ℕ, map, length}
use Rattle.std.specs.List.{flat_map, AllByRecursion}
use Rattle.git_name.specs.Text.{ended}
use Rattle.git_header.specs.Header.{IsPlain, continuing}
use Rattle.git_header.proofs.continuation.take_more.Given as goal

-- what was read is valid continuation lines
abbrev pub invariant-lines : goal.invariant-lines
invariant-lines l = (values : List (List ℕ)) × AllByRecursion IsPlain values × (l.text ≡ flat_map ended (map continuing values) ++ l.rest)

abbrev pub decreases-lines : goal.decreases-lines
decreases-lines l = length l.rest
