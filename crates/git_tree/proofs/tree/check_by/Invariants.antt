use Rattle.std.proofs.Common.{◌-◌, ◌≤◌, length, take}
use Rattle.git_tree.specs.Row.{entries_in, IsRow}
use Rattle.git_tree.specs.Tree.{AreEntries}
use Rattle.git_tree.specs.Tracks.{Tracks, reached_by}
use Rattle.git_tree.proofs.tree.check_by.Given as goal

-- what was read is a row of valid entries
abbrev pub invariant-loop-at : goal.invariant-loop-at
invariant-loop-at g l = record {
  within : l.at ≤ length l.bytes;
  row : IsRow (take l.at l.bytes);
  are : AreEntries (entries_in (take l.at l.bytes));
  tracks : Tracks (entries_in (take l.at l.bytes)) (reached_by l.last l.fronts);
}

abbrev pub decreases-loop-at : goal.decreases-loop-at
decreases-loop-at g l = length l.bytes - l.at
