use Rattle.std.proofs.Common.{◌≡◌, map, take}
use Rattle.object_table.specs.Told.{entry_of}
use Rattle.fork_ledger.proofs.receiving.entries_of.Given as goal

-- what is told of the objects so far
abbrev pub invariant-loop-sealed : goal.invariant-loop-sealed
invariant-loop-sealed l = l.entries.items ≡ map entry_of (take l.sealed-index l.objects)
