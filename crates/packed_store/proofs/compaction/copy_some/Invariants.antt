use Rattle.std.proofs.Common.{◌≡◌, IsTrue}
use Rattle.devices.specs.Device.{files_of}
use Rattle.packed_store.specs.Contents.{contents_in}
use Rattle.packed_store.specs.Place.{AreRecorded, index_of}
use Rattle.packed_store.proofs.compaction.copy_some.Given as goal

abbrev pub invariant-loop-name : goal.invariant-loop-name
invariant-loop-name g l = ((IsTrue (g.D.Device.honest l.fn.log.device) → AreRecorded (files_of (g.D.Device.past l.fn.log.device)) (index_of l.fn.index.entries))
    → contents_in (g.D.Device.honest l.log.device) (g.D.Device.past l.log.device) (index_of l.index.entries) ≡ contents_in (g.D.Device.honest l.fn.log.device) (g.D.Device.past l.fn.log.device) (index_of l.fn.index.entries))
    × (IsTrue (g.D.Device.honest l.fn.log.device) → AreRecorded (files_of (g.D.Device.past l.fn.log.device)) (index_of l.fn.index.entries) → AreRecorded (files_of (g.D.Device.past l.log.device)) (index_of l.index.entries))
    × (g.D.Device.honest l.log.device ≡ g.D.Device.honest l.fn.log.device)
