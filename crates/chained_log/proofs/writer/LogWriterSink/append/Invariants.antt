use Rattle.std.proofs.Common.{◌≡◌, ◌≤◌, ◌-◌, length, take}
use Rattle.chained_log.specs.Writing.{AppendsPieces}
use Rattle.chained_log.proofs.writer.LogWriterSink.append.Given as goal

-- so many bytes were appended, as pieces
abbrev pub invariant-loop-at : goal.invariant-loop-at
invariant-loop-at g l = record {
  within : l.at ≤ length l.bytes;
  so_far : AppendsPieces (take l.at l.bytes) (g.W.Sink.contents l.fn.self.writer) (g.W.Sink.contents l.self.writer) l.fn.self.sum l.self.sum;
  rest : g.W.Sink.rest l.self.writer ≡ g.W.Sink.rest l.fn.self.writer;
  first : l.self.first ≡ l.fn.self.first;
  start : l.self.start ≡ l.fn.self.start;
}

abbrev pub decreases-loop-at : goal.decreases-loop-at
decreases-loop-at g l = length l.bytes - l.at
