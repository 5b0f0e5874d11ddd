use Rattle.std.proofs.Common.{◌≡◌, length}
use Rattle.std.specs.Io.KnownBytes.{Keeps}
use Rattle.state_text.proofs.lines.read_some.Given as goal

-- a failed read consumes nothing
abbrev pub invariant-loop : goal.invariant-loop
invariant-loop g l = (length l.buf ≡ length l.initial.buf) × Keeps (g.R.Read.remaining l.fn.reader) (g.R.Read.remaining l.reader)
