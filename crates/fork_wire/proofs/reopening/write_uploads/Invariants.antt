use Rattle.std.proofs.Common.{◌≡◌, ◌++◌, List, ℕ, map}
use Rattle.fork_host.specs.Shape.{SameShape}
use Rattle.fork_host.specs.Shown.{Trusted, world_of}
use Rattle.fork_host.specs.Uploads.{uploads_of}
use Rattle.fork_wire.proofs.ReopeningLemmas.{Written}
use Rattle.fork_wire.proofs.UploadsLemmas.{uploads_by}
use Rattle.fork_wire.proofs.reopening.write_uploads.Given as goal

-- the frames of the uploads of the tenants so far were written, the other tenants are left, and the host shows what it showed
abbrev pub invariant-loop-name : goal.invariant-loop-name
invariant-loop-name g l = record {
  done : List (List ℕ);
  parts : done ++ l.name-iterator.rest.items ≡ map (λ upload. upload.0) (uploads_of (world_of l.fn.host));
  sent : Trusted l.fn.host → Written (uploads_by (world_of l.fn.host) done) (g.W.Sink.contents l.fn.writer) (g.W.Sink.contents l.writer);
  kept : Trusted l.fn.host → world_of l.host ≡ world_of l.fn.host;
  trusted : Trusted l.fn.host → Trusted l.host;
  rest : g.W.Sink.rest l.writer ≡ g.W.Sink.rest l.fn.writer;
  shape : (name : List ℕ) → SameShape name (world_of l.fn.host) (world_of l.host);
}
