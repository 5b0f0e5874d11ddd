use Rattle.std.proofs.Common.{◌≡◌, true, take}
use Rattle.number_links.specs.Records.{are_still}
use Rattle.number_links.proofs.records.is_still.Given as goal

abbrev pub invariant-loop-n : goal.invariant-loop-n
invariant-loop-n l = are_still l.renewed l.learned (take l.n-index l.numbers) ≡ true
