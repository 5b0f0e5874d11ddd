use Rattle.std.proofs.Common.{◌≡◌, ◌++◌}
use Rattle.std.specs.List.{flat_map}
use Rattle.fork_query.specs.Trees.{entry_row}
use Rattle.fork_query.proofs.trees.write_rows.Given as goal

-- the rows so far, and then those of the entries that are left, are those of all
abbrev pub invariant-loop-entry : goal.invariant-loop-entry
invariant-loop-entry l = l.text.items ++ flat_map entry_row l.entry-iterator ≡ flat_map entry_row l.fn.row
