use Rattle.packed_store.specs.Place.{index_of}
use Rattle.devices.specs.Device.{files_of}
use Rattle.packed_store.proofs.ContentLemmas.{grown_in}
use Rattle.packed_store.proofs.GrowthLemmas.{are_recorded_still}
use Rattle.packed_store.proofs.storing.add_undone.Goals as goal

pub returns-clause-kept : goal.returns-clause-kept
returns-clause-kept g c there =
    grown_in (g.D.Device.honest c.args.log.now.device) (g.D.Device.honest c.undo.new.self.device) (g.D.Device.past c.args.log.now.device) (g.D.Device.past c.undo.new.self.device)
    (index_of c.args.index.now.entries) c.undo.ensures.honest there c.undo.ensures.grows

pub returns-clause-there : goal.returns-clause-there
returns-clause-there g c honest there =
    are_recorded_still (files_of (g.D.Device.past c.args.log.now.device)) (files_of (g.D.Device.past c.undo.new.self.device)) (c.undo.ensures.grows honest) (index_of c.args.index.now.entries) there
