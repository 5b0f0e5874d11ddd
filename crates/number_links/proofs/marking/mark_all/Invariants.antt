use Rattle.std.proofs.Common.{◌<◌, All, take}
use Rattle.number_links.specs.Generations.{IsMarked, generation}
use Rattle.number_links.proofs.marking.mark_all.Given as goal

-- those so far are marked, and nothing else changed
abbrev pub invariant-loop-n : goal.invariant-loop-n
invariant-loop-n l = IsMarked l.fn.generations l.generations × All (λ n. 0 < generation l.generations n) (take l.n-index l.numbers)
