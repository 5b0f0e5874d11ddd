use Rattle.std.proofs.Common.{◌≡◌, ◌≤◌, ◌++◌, ◌-◌, List, ℕ, length, max}
use Rattle.std.specs.Io.KnownBytes.{Consumes}
use Rattle.chained_log.proofs.reader.fill.Given as goal

-- what came was appended, and is no more than was asked for
abbrev pub invariant-loop-came : goal.invariant-loop-came
invariant-loop-came g l = record {
  bytes : (more : List ℕ) × Consumes (g.R.Read.remaining l.fn.reader) (g.R.Read.remaining l.reader) more × (l.came.items ≡ l.fn.came.items ++ more);
  bound : length l.came.items ≤ max (length l.fn.came.items) l.fn.most;
}

abbrev pub decreases-loop-came : goal.decreases-loop-came
decreases-loop-came g l = l.fn.most - length l.came.items
