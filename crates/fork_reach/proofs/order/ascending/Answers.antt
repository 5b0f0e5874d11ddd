use Rattle.std.proofs.Common.{subst, sym}
use Rattle.std.specs.List.Sorted.{IsPermutation}
use Rattle.std.proofs.lemmas.Cmp.{nat_list_eq_equiv}
use Rattle.std.proofs.lemmas.List.Sorted.{list_any-IsPermutation}
use Rattle.std.proofs.lemmas.Map.Keys.{IsDistinct-IsPermutation}
use Rattle.git_name.specs.Same.{same_name}
use Rattle.git_name.proofs.SortedNames.{strictly_sorted}
use Rattle.fork_reach.proofs.order.ascending.Goals as goal

pub returns-clause-order : goal.returns-clause-order
returns-clause-order c =
    let keys = c.args.names.now.keys in
    let list = c.sort_unstable.new.self.items in
    let moved = subst (λ ns. IsPermutation ns list) c.in_ok-list.ensures.names c.sort_unstable.ensures.permutation in
    strictly_sorted list c.sort_unstable.ensures.sorted (IsDistinct-IsPermutation same_name nat_list_eq_equiv.symm keys list moved c.listed.ensures.distinct)

pub returns-clause-same : goal.returns-clause-same
returns-clause-same c = λ name.
    let keys = c.args.names.now.keys in
    let list = c.sort_unstable.new.self.items in
    let moved = subst (λ ns. IsPermutation ns list) c.in_ok-list.ensures.names c.sort_unstable.ensures.permutation in
    sym (list_any-IsPermutation (same_name name) keys list moved)
