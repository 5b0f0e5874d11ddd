use Rattle.std.proofs.Common.{◌≡◌, take, map}
use Rattle.std.specs.List.{All}
use Rattle.object_table.specs.Links.{numbered_name}
use Rattle.object_table.specs.Rows.{IsUsed}
use Rattle.object_table.proofs.linking.numbers_of.Given as goal

-- the numbers of the names so far
abbrev pub invariant-loop-name : goal.invariant-loop-name
invariant-loop-name l = record {
  named : map (numbered_name l.table.entries) l.numbers.items ≡ take l.name-index l.names;
  used : All (IsUsed l.table.entries) l.numbers.items;
}
