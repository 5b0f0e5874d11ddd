use Rattle.std.proofs.Common.{◌≡◌, ◌++◌, map, take}
use Rattle.std.specs.List.{flat_map, AllByRecursion}
use Rattle.git_name.specs.Name.{IsName}
use Rattle.git_name.specs.Text.{ended}
use Rattle.git_commit.specs.Commit.{parent_line}
use Rattle.git_commit.proofs.writing.put_parents.Given as goal

-- the lines of the parents so far are written, and each is a name
abbrev pub invariant-loop-parent : goal.invariant-loop-parent
invariant-loop-parent l = record {
  lines : l.out.items ≡ l.fn.out.items ++ flat_map ended (map parent_line (take l.parent-index l.parents));
  names : AllByRecursion IsName (take l.parent-index l.parents);
}
