use Rattle.std.proofs.Common.{◌≡◌, IsTrue}
use Rattle.devices.specs.Device.{files_of}
use Rattle.packed_store.specs.Lasting.{AreSure, IsUnfailed, Narrows}
use Rattle.packed_store.proofs.syncs.sync_below.Given as goal

abbrev pub invariant-loop-segment : goal.invariant-loop-segment
invariant-loop-segment g l = (g.D.Device.honest l.device ≡ g.D.Device.honest l.fn.device)
    × (IsTrue (g.D.Device.honest l.fn.device) → files_of (g.D.Device.past l.device) ≡ files_of (g.D.Device.past l.fn.device))
    × (IsTrue (g.D.Device.honest l.fn.device) → Narrows (g.D.Device.past l.fn.device) (g.D.Device.past l.device))
    × (IsTrue (g.D.Device.honest l.fn.device) → IsUnfailed (g.D.Device.past l.fn.device) → IsUnfailed (g.D.Device.past l.device))
    × (IsTrue (g.D.Device.honest l.fn.device) → IsUnfailed (g.D.Device.past l.device) → AreSure (g.D.Device.past l.device) l.fn.from l.segment)
