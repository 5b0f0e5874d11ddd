use Rattle.fork_model.specs.Sound.{IsOrderlyWorld, IsRightWorld}
use Rattle.fork_host.specs.Shown.{Trusted, world_of}
use Rattle.fork_wire.proofs.Reserving.{Reserving}
use Rattle.fork_wire.proofs.again.serve_again.Given as goal

-- so many frames were answered, and none by a host fault
abbrev pub invariant-loop-count : goal.invariant-loop-count
invariant-loop-count g l = record {
  trusted : Trusted l.fn.host → Trusted l.host;
  orderly : IsOrderlyWorld (world_of l.host);
  right : Trusted l.fn.host → IsRightWorld (world_of l.host);
  so_far : Reserving l.fn.host l.host (g.R.Read.remaining l.fn.reader) (g.R.Read.remaining l.reader) l.count;
}
