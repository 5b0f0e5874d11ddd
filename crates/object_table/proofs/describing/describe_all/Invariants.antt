use Rattle.std.proofs.Common.{◌≡◌, take}
use Rattle.std.specs.List.{All}
use Rattle.object_table.specs.Clashes.{DescribesUnheld, HasRow}
use Rattle.object_table.specs.Rows.{places_of}
use Rattle.object_table.proofs.DescribeLemmas.{IsDescribed}
use Rattle.object_table.proofs.describing.describe_all.Given as goal

-- the entries so far are described
abbrev pub invariant-loop-entry : goal.invariant-loop-entry
invariant-loop-entry l = record {
  places : places_of l.table ≡ places_of l.fn.table;
  describes : DescribesUnheld l.fn.table.entries l.table.entries;
  described : All (IsDescribed l.fn.table.entries l.table.entries l.entries) (take l.entry-index l.entries);
}

-- the rows so far are theirs
abbrev pub invariant-loop-entry-2 : goal.invariant-loop-entry-2
invariant-loop-entry-2 l = record {
  places : places_of l.table ≡ places_of l.fn.table;
  describes : DescribesUnheld l.fn.table.entries l.table.entries;
  described : All (IsDescribed l.fn.table.entries l.table.entries l.entries) l.entries;
  rows : All (HasRow l.table.entries) (take l.entry-index l.entries);
}
