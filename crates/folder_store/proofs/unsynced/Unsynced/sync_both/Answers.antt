use Rattle.std.proofs.Common.{◌∙◌}
use Rattle.folder_store.proofs.SyncLemmas.{syncs_then}
use Rattle.folder_store.proofs.unsynced.Unsynced.sync_both.Goals as goal

pub returns-clause-only : goal.returns-clause-only
returns-clause-only g c honest unfailed =
    syncs_then (g.D.Device.past c.args.device.now) (g.D.Device.past c.sync_folder.new.device) (g.D.Device.past c.sync_folder-2.new.device) (c.sync_folder.ensures.only honest (c.sync_folder-2.ensures.failed unfailed))
    (c.sync_folder-2.ensures.only (c.sync_folder.ensures.honest ∙ honest) unfailed)
