use Rattle.devices.specs.Device.{SyncedFolder}
use Rattle.folder_store.proofs.SyncLemmas.{only_sync}
use Rattle.folder_store.proofs.unsynced.Unsynced.sync_folder.Goals as goal

pub returns-clause-only : goal.returns-clause-only
returns-clause-only g c honest unfailed =
    only_sync c.args.self.now.has_failed c.was_synced.new.self.has_failed (SyncedFolder c.args.folder.now) tt c.sync_names-synced.result (g.D.Device.past c.args.device.now) (g.D.Device.past c.sync_names-synced.new.device)
    c.was_synced.ensures.failed unfailed (c.sync_names-synced.ensures.effect honest) (c.sync_names-synced.ensures.untried honest)
