use Rattle.std.proofs.Common.{take}
use Rattle.number_links.specs.Numbers.{has}
use Rattle.number_links.specs.Seeing.{Enters}
use Rattle.number_links.proofs.gathering.enter_all.Given as goal

-- the numbers so far were entered
abbrev pub invariant-loop-n : goal.invariant-loop-n
invariant-loop-n l = Enters 4294967296 (has l.fn.ends) (take l.n-index l.numbers) (has l.fn.seen) l.fn.waiting.items (has l.seen) l.waiting.items
