use Rattle.std.proofs.Common.{take}
use Rattle.std.specs.List.{All}
use Rattle.object_table.specs.Views.{HasRoom, SameSets}
use Rattle.object_table.proofs.staging.reserve_all.Given as goal

-- the numbers so far have room
abbrev pub invariant-loop-entry : goal.invariant-loop-entry
invariant-loop-entry l = record {
  same : SameSets l.fn.own l.own;
  room : All (λ entry. HasRoom l.table.entries l.own entry.name) (take l.entry-index l.entries);
}
