use Rattle.std.proofs.Common.{◌≡◌, ◌<◌, ℕ, Contains, true, take}
use Rattle.number_links.specs.Numbers.{has}
use Rattle.number_links.specs.Generations.{generation}
use Rattle.number_links.proofs.history.have_generations.Given as goal

-- those so far have generations, as far as they are allowed
abbrev pub invariant-loop-n : goal.invariant-loop-n
invariant-loop-n l = (n : ℕ) → Contains (take l.n-index l.numbers) n → has l.fn.ground.allowed.now n ≡ true → 1 < generation l.fn.ground.generations.now n
