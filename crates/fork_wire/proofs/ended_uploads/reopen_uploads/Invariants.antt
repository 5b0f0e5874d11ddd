use Rattle.fork_model.specs.Sound.{IsOrderlyWorld, IsRightWorld}
use Rattle.fork_host.specs.Shown.{Trusted, world_of}
use Rattle.std.proofs.Common.{◌≤◌, None}
use Rattle.fork_wire.proofs.Reserving.{Reserving}
use Rattle.fork_wire.proofs.ended_uploads.reopen_uploads.Given as goal

-- so many frames were answered, and the host is as right as it was
abbrev pub invariant-loop : goal.invariant-loop
invariant-loop g l = record {
  trusted : Trusted l.fn.host → Trusted l.host;
  orderly : IsOrderlyWorld (world_of l.host);
  right : Trusted l.fn.host → IsRightWorld (world_of l.host);
  bound : l.count ≤ l.counter;
  so_far : Reserving l.fn.host l.host None None l.count;
}
