use Rattle.indexmap.specs.IndexSet.{contains}
use Rattle.git_name.specs.Same.{same_name}
use Rattle.folder_store.proofs.NotedLemmas.{ahead_safe}
use Rattle.folder_store.proofs.StandingLemmas.{both_syncs, sync_call}
use Rattle.folder_store.proofs.folder.FolderLooseFiles.sync_ahead.Goals as goal

pub returns-clause-call : goal.returns-clause-call
returns-clause-call g c honest =
    sync_call (g.D.Device.past c.args.self.now.device) (g.D.Device.past c.sync_ahead.new.device) c.args.self.now.has_swept c.args.self.now.unsynced.has_failed c.sync_ahead.new.self.has_failed c.sync_ahead.ensures.unfailed
    (λ unfailed. both_syncs _ _ _ _ _ _ (c.sync_ahead.ensures.both honest unfailed))

pub returns-clause-ahead : goal.returns-clause-ahead
returns-clause-ahead g c honest unfailed still name is_name noted left unmarked whole =
    ahead_safe (contains same_name c.args.self.now.unsynced.names) (contains same_name c.sync_ahead.new.self.names) c.args.self.now.unsynced.homes c.sync_ahead.new.self.homes (g.D.Device.past c.args.self.now.device) (g.D.Device.past c.sync_ahead.new.device) name
    (c.sync_ahead.ensures.both honest still) unfailed is_name noted left unmarked whole
