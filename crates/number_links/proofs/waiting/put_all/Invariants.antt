use Rattle.std.proofs.Common.{take}
use Rattle.number_links.specs.Numbers.{has}
use Rattle.number_links.specs.Descent.{Puts, waits}
use Rattle.number_links.proofs.waiting.put_all.Given as goal

-- the keys of those so far were put to the others
abbrev pub invariant-loop-n : goal.invariant-loop-n
invariant-loop-n l = Puts (take l.n-index l.numbers) (has l.fn.ground.allowed.now) l.fn.ground.generations.now (waits l.fn.keys) (waits l.keys)
