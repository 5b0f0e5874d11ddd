use Rattle.std.proofs.Common.{List, ℕ}
use Rattle.std.specs.Io.KnownBytes.{Consumes}
use Rattle.chained_log.proofs.reader.ends_in_zeros.Given as goal

abbrev pub invariant-loop : goal.invariant-loop
invariant-loop g l = (more : List ℕ) × Consumes (g.R.Read.remaining l.fn.reader) (g.R.Read.remaining l.reader) more
