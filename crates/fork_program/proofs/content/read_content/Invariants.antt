use Rattle.std.proofs.Common.{◌-◌, length}
use Rattle.std.specs.Io.KnownBytes.{Consumes}
use Rattle.fork_program.proofs.content.read_content.Given as goal

-- the bytes so far were taken
abbrev pub invariant-loop-reader : goal.invariant-loop-reader
invariant-loop-reader g l = Consumes (g.R.Read.remaining l.fn.reader) (g.R.Read.remaining l.reader) l.content.items

abbrev pub decreases-loop-reader : goal.decreases-loop-reader
decreases-loop-reader g l = 8388609 - length l.content.items
