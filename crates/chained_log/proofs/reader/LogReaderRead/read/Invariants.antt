use Rattle.std.specs.Io.KnownBytes.{Keeps}
use Rattle.chained_log.specs.Reading.{log_left}
use Rattle.chained_log.proofs.reader.LogReaderRead.read.Given as goal

-- what is left to give stays
abbrev pub invariant-loop : goal.invariant-loop
invariant-loop g l =
    Keeps (log_left (g.R.Read.remaining l.fn.self.reader) l.fn.self.sum l.fn.self.came.items l.fn.self.at l.fn.self.end l.fn.self.ended)
    (log_left (g.R.Read.remaining l.self.reader) l.self.sum l.self.came.items l.self.at l.self.end l.self.ended)
