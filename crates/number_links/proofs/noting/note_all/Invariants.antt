use Rattle.std.proofs.Common.{take}
use Rattle.number_links.specs.Numbers.{has}
use Rattle.number_links.specs.Reach.{past}
use Rattle.number_links.specs.Seeing.{Sees}
use Rattle.number_links.proofs.noting.note_all.Given as goal

-- the numbers so far were seen to
abbrev pub invariant-loop-n : goal.invariant-loop-n
invariant-loop-n l = Sees 4294967296 (past (has l.fn.allowed) (has l.fn.hidden)) (take l.n-index l.numbers) (has l.fn.seen) l.fn.waiting.items (has l.seen) l.waiting.items
