use Rattle.std.proofs.Common.{◌≡◌, ◌++◌, map}
use Rattle.std.specs.List.{flat_map}
use Rattle.git_name.specs.Text.{ended}
use Rattle.git_header.specs.Header.{continuing}
use Rattle.git_header.specs.Left.{more_left}
use Rattle.git_commit.proofs.writing.put_more.Given as goal

-- what is written and what is left are all that is to be written
abbrev pub invariant-loop-value : goal.invariant-loop-value
invariant-loop-value l = l.out.items ++ flat_map ended (map continuing (more_left l.value-iterator)) ≡ l.fn.out.items ++ flat_map ended (map continuing (more_left l.fn.more))
