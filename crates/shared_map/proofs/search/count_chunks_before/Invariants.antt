use Rattle.std.proofs.Common.{◌≤◌, ◌-◌, length, take, drop}
use Rattle.shared_map.specs.Chunks.{AreBefore, IsReached, joined}
use Rattle.shared_map.proofs.search.count_chunks_before.Given as goal

-- what is below ends before the key, and what is above begins with a chunk that does not
abbrev pub invariant-halves : goal.invariant-halves
invariant-halves l = record {
  order : l.low ≤ l.high;
  within : l.high ≤ length l.chunks;
  before : AreBefore l.key (joined (take l.low l.chunks));
  reached : IsReached l.key (drop l.high l.chunks);
}

abbrev pub decreases-halves : goal.decreases-halves
decreases-halves l = l.high - l.low
