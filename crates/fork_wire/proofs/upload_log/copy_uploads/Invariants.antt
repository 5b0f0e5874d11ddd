use Rattle.std.proofs.Common.{◌≡◌}
use Rattle.fork_wire.proofs.CopyingLemmas.{Copying}
use Rattle.fork_wire.proofs.upload_log.copy_uploads.Given as goal

-- so many frames were copied
abbrev pub invariant-loop : goal.invariant-loop
invariant-loop g l = record {
  so_far : Copying (g.R.Read.remaining l.fn.reader) (g.R.Read.remaining l.reader) (g.W.Sink.contents l.fn.writer) (g.W.Sink.contents l.writer);
  rest : g.W.Sink.rest l.writer ≡ g.W.Sink.rest l.fn.writer;
}
