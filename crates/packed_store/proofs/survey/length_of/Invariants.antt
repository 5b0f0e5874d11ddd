use Rattle.std.proofs.Common.{◌-◌, ◌<◌, ◌≤◌, IsTrue, length}
use Rattle.packed_store.specs.Place.{bytes_of}
use Rattle.packed_store.proofs.survey.length_of.Given as goal

abbrev pub invariant-loop-known : goal.invariant-loop-known
invariant-loop-known g l = (l.known.least < l.known.more)
    × (IsTrue (g.D.Device.honest l.fn.device) → l.known.least ≤ length (bytes_of (g.D.Device.past l.fn.device) l.path))
    × (IsTrue (g.D.Device.honest l.fn.device) → length (bytes_of (g.D.Device.past l.fn.device) l.path) < l.known.more)

abbrev pub decreases-loop-known : goal.decreases-loop-known
decreases-loop-known g l = l.known.more - l.known.least
