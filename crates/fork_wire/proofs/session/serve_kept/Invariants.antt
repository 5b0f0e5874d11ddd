use Rattle.std.proofs.Common.{◌≡◌}
use Rattle.std.specs.Io.KnownBytes.{Keeps}
use Rattle.fork_model.specs.Sound.{IsOrderlyWorld, IsRightWorld}
use Rattle.fork_host.specs.Shown.{Trusted, world_of}
use Rattle.fork_wire.proofs.Going.{Going}
use Rattle.fork_wire.proofs.session.serve_kept.Given as goal

-- what came so far was answered by what went out so far, and the journal has what is to be kept of it, synced if it was at first
abbrev pub invariant-loop : goal.invariant-loop
invariant-loop g l = record {
  trusted : Trusted l.fn.host → Trusted l.host;
  orderly : IsOrderlyWorld (world_of l.host);
  right : Trusted l.fn.host → IsRightWorld (world_of l.host);
  going : Going l.fn.host l.host (g.R.Read.remaining l.fn.reader) (g.R.Read.remaining l.reader) (g.W.Write.contents l.fn.writer) (g.W.Write.contents l.writer) (g.J.Journal.kept l.fn.journal) (g.J.Journal.kept l.journal);
  synced : Keeps (g.J.Journal.synced l.fn.journal) (g.J.Journal.kept l.fn.journal) → Keeps (g.J.Journal.synced l.journal) (g.J.Journal.kept l.journal);
  whole : g.J.Journal.is_cut l.journal ≡ g.J.Journal.is_cut l.fn.journal;
}
