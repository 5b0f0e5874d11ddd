use Rattle.std.proofs.Common.{◌≤◌, ◌-◌, length, take, drop}
use Rattle.shared_map.specs.Chunks.{AreBefore, AreNotBefore}
use Rattle.shared_map.proofs.search.count_before.Given as goal

-- what is below comes before the key, and nothing above does
abbrev pub invariant-halves : goal.invariant-halves
invariant-halves l = record {
  order : l.low ≤ l.high;
  within : l.high ≤ length l.entries;
  before : AreBefore l.key (take l.low l.entries);
  behind : AreNotBefore l.key (drop l.high l.entries);
}

abbrev pub decreases-halves : goal.decreases-halves
decreases-halves l = l.high - l.low
