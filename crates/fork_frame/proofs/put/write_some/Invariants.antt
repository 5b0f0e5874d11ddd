use Rattle.std.specs.Io.KnownBytes.{Keeps}
use Rattle.fork_frame.proofs.put.write_some.Given as goal

-- a failed write writes nothing
abbrev pub invariant-loop : goal.invariant-loop
invariant-loop g l = Keeps (g.W.Write.contents l.fn.writer) (g.W.Write.contents l.writer)
