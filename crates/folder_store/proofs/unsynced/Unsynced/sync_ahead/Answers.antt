use Rattle.std.proofs.Common.{refl}
use Rattle.indexmap.specs.IndexSet.{contains}
use Rattle.git_name.specs.Same.{same_name}
use Rattle.folder_store.proofs.SyncLemmas.{files_none, goes_on, homes_none}
use Rattle.folder_store.proofs.unsynced.Unsynced.sync_ahead.Goals as goal

pub returns-then-count-lt-MANY-clause-both : goal.returns-then-count-lt-MANY-clause-both
returns-then-count-lt-MANY-clause-both g c honest unfailed =
    let noted = contains same_name c.args.self.now.names in
    let homes = c.args.self.now.homes in
    let past = g.D.Device.past c.args.device.now in
    goes_on noted noted homes homes homes past past past (files_none noted noted homes homes past past refl refl refl) (homes_none homes homes past past refl refl)
