use Rattle.std.proofs.Common.{◌≤◌, All, take}
use Rattle.number_links.proofs.lists.greatest.Given as goal

abbrev pub invariant-loop-n : goal.invariant-loop-n
invariant-loop-n l = All (λ n. n ≤ l.most) (take l.n-index l.numbers)
