use Rattle.std.proofs.Common.{◌≡◌, ◌≤◌, ◌-◌, ℕ, List, length}
use Rattle.std.specs.List.{IsDistinct}
use Rattle.git_name.specs.Same.{is_listed, same_name}
use Rattle.object_table.proofs.ListingLemmas.{seen_below}
use Rattle.object_table.proofs.listing.count_seen.Given as goal

-- the names were counted of what is seen of numbers below this one
abbrev pub invariant-loop-n : goal.invariant-loop-n
invariant-loop-n l =
    (names : List (List ℕ))
    × record {
      count : length names ≡ l.count;
      listed : (q : List ℕ) → is_listed names q ≡ seen_below l.table.entries l.own l.from q;
      distinct : IsDistinct same_name names;
      few : l.count ≤ l.from;
      small : l.from ≤ 4294967295;
    }

abbrev pub decreases-loop-n : goal.decreases-loop-n
decreases-loop-n l = 4294967296 - l.from
