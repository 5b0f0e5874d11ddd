use Rattle.std.proofs.Common.{◌≡◌, take}
use Rattle.std.specs.List.{AllByRecursion, flat_map}
use Rattle.fork_query.specs.Lent.{HasOwnName, record_lent}
use Rattle.fork_query.proofs.lent.write_all.Given as goal

-- the records so far
abbrev pub invariant-loop-one : goal.invariant-loop-one
invariant-loop-one l = AllByRecursion HasOwnName l.lent → l.text.items ≡ flat_map record_lent (take l.one-index l.lent)
