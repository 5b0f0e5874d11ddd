use Rattle.std.proofs.Common.{◌≡◌, ◌≤◌, ◌-◌, ℕ, List}
use Rattle.std.specs.List.{IsDistinct}
use Rattle.git_name.specs.Same.{is_listed, same_name}
use Rattle.object_table.proofs.ListingLemmas.{seen_below}
use Rattle.object_table.proofs.listing.seen_among.Given as goal

-- the names of what is seen of numbers below this one
abbrev pub invariant-loop-n : goal.invariant-loop-n
invariant-loop-n l = record {
  listed : (q : List ℕ) → is_listed l.names.items q ≡ seen_below l.table.entries l.own l.from q;
  distinct : IsDistinct same_name l.names.items;
  small : l.from ≤ 4294967295;
}

abbrev pub decreases-loop-n : goal.decreases-loop-n
decreases-loop-n l = 4294967296 - l.from
