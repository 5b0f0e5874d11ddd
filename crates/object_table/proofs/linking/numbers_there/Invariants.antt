use Rattle.std.proofs.Common.{◌≡◌, ℕ, Some, take}
use Rattle.std.specs.Prelude.{Contains}
use Rattle.std.specs.List.{All}
use Rattle.object_table.specs.declared.row.Row.{Row}
use Rattle.object_table.specs.Links.{numbered_name}
use Rattle.object_table.specs.Rows.{IsUsed, row_in}
use Rattle.object_table.proofs.linking.numbers_there.Given as goal

-- the numbers of the names so far
abbrev pub invariant-loop-name : goal.invariant-loop-name
invariant-loop-name l = record {
  only : (n : ℕ) → Contains l.numbers.items n → IsUsed l.table.entries n × Contains l.names (numbered_name l.table.entries n);
  all : All (λ name. (row : Row) → row_in l.table.entries name ≡ Some row → Contains l.numbers.items row.number) (take l.name-index l.names);
}
