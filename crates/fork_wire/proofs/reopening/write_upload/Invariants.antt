use Rattle.std.proofs.Common.{◌≡◌, ◌-◌, ◌≤◌, length, take}
use Rattle.fork_wire.proofs.ReopeningLemmas.{Sending}
use Rattle.fork_wire.proofs.reopening.write_upload.Given as goal

-- so many bytes were sent
abbrev pub invariant-loop-at : goal.invariant-loop-at
invariant-loop-at g l = record {
  within : l.at ≤ length l.bytes;
  sending : Sending l.tenant (take l.at l.bytes) (g.W.Sink.contents l.fn.writer) (g.W.Sink.contents l.writer);
  rest : g.W.Sink.rest l.writer ≡ g.W.Sink.rest l.fn.writer;
}

abbrev pub decreases-loop-at : goal.decreases-loop-at
decreases-loop-at g l = length l.bytes - l.at
