use Rattle.folder_store.proofs.SyncLemmas.{home_one}
use Rattle.folder_store.proofs.unsynced.Unsynced.sync_home.Goals as goal

pub returns-clause-folders : goal.returns-clause-folders
returns-clause-folders g c honest unfailed =
    home_one c.args.self.now.homes c.was_synced.new.self.homes c.args.first (g.D.Device.past c.args.device.now) (g.D.Device.past c.sync_home_of-synced.new.device) c.sync_home_of-synced.result c.in_ok-was_synced.field-0 c.in_ok-was_synced.ensures.same
    (c.sync_home_of-synced.ensures.effect honest) c.was_synced.ensures.homes
