use Rattle.std.proofs.Common.{◌≡◌, ◌<◌, ◌≤◌, ◌⊎◌, ℕ, All, Contains, take}
use Rattle.number_links.specs.Generations.{generation}
use Rattle.number_links.proofs.marking.above.Given as goal

-- the parents so far have generations, none of them greater than this one, which one of them has, if it is not the first
abbrev pub invariant-loop-p : goal.invariant-loop-p
invariant-loop-p l = ((1 ≤ l.most) × (l.most ≤ 4294967295)) × All (λ p. (1 < generation l.generations p) × (generation l.generations p ≤ l.most)) (take l.p-index l.parents)
    × ((l.most ≡ 1) ⊎ ((p : ℕ) × Contains l.parents p × (l.most ≡ generation l.generations p)))
