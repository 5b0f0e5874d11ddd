use Rattle.std.proofs.Common.{◌≡◌, ◌≤◌, ◌-◌, ℕ, List}
use Rattle.std.specs.HashSet.{contains}
use Rattle.git_name.specs.Same.{same_name}
use Rattle.object_table.proofs.ListingLemmas.{seen_below}
use Rattle.object_table.proofs.WalkedLemmas.{as_sets}
use Rattle.object_table.proofs.linking.names_of.Given as goal

-- the names of numbers below this one
abbrev pub invariant-loop-n : goal.invariant-loop-n
invariant-loop-n l = record {
  listed : (q : List ℕ) → contains same_name l.names q ≡ seen_below l.table.entries (as_sets l.numbers) l.from q;
  small : l.from ≤ 4294967295;
}

abbrev pub decreases-loop-n : goal.decreases-loop-n
decreases-loop-n l = 4294967296 - l.from
