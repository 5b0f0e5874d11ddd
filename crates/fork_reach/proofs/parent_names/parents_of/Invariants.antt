use Rattle.std.proofs.Common.{◌≡◌, ◌++◌}
use Rattle.git_commit.specs.Left.{parents_left}
use Rattle.git_commit.specs.Whole.{commit_of}
use Rattle.fork_reach.proofs.parent_names.parents_of.Given as goal

-- the parents so far, and then those that are left
abbrev pub invariant-loop-parent : goal.invariant-loop-parent
invariant-loop-parent l = l.names.items ++ parents_left l.parent-iterator ≡ (commit_of l.fn.commit).parents
