use Rattle.std.proofs.Common.{◌≡◌, ◌++◌, List, ℕ}
use Rattle.std.specs.Io.KnownBytes.{Consumes}
use Rattle.fork_program.proofs.log_reference.take_line.Given as goal

-- what came so far was appended
abbrev pub invariant-loop : goal.invariant-loop
invariant-loop g l = (more : List ℕ) × Consumes (g.R.Read.remaining l.fn.reader) (g.R.Read.remaining l.reader) more × (l.line.items ≡ l.fn.line.items ++ more)
