use Rattle.indexmap.specs.IndexSet.{contains}
use Rattle.git_name.specs.Same.{same_name}
use Rattle.folder_store.proofs.NotedLemmas.{noted_safe}
use Rattle.folder_store.proofs.StandingLemmas.{both_syncs, sync_call}
use Rattle.folder_store.proofs.folder.FolderLooseFiles.sync.Goals as goal

pub returns-in-Ok-clause-synced : goal.returns-in-Ok-clause-synced
returns-in-Ok-clause-synced g c honest unfailed name is_name noted whole =
    noted_safe (contains same_name c.args.self.now.unsynced.names) c.args.self.now.unsynced.homes (g.D.Device.past c.args.self.now.device) (g.D.Device.past c.sync.new.device) name (c.in-Ok.ensures.synced honest) unfailed is_name noted whole

pub returns-in-Ok-clause-call : goal.returns-in-Ok-clause-call
returns-in-Ok-clause-call g c honest =
    sync_call (g.D.Device.past c.args.self.now.device) (g.D.Device.past c.sync.new.device) c.args.self.now.has_swept c.args.self.now.unsynced.has_failed c.sync.new.self.has_failed c.sync.ensures.unfailed
    (λ unfailed. both_syncs _ _ _ _ _ _ (c.sync.ensures.both honest unfailed))

pub returns-in-Err-2-clause-call : goal.returns-in-Err-2-clause-call
returns-in-Err-2-clause-call g c honest =
    sync_call (g.D.Device.past c.args.self.now.device) (g.D.Device.past c.sync.new.device) c.args.self.now.has_swept c.args.self.now.unsynced.has_failed c.sync.new.self.has_failed c.sync.ensures.unfailed
    (λ unfailed. both_syncs _ _ _ _ _ _ (c.sync.ensures.both honest unfailed))

pub returns-in-Err-clause-call : goal.returns-in-Err-clause-call
returns-in-Err-clause-call g c honest =
    sync_call (g.D.Device.past c.args.self.now.device) (g.D.Device.past c.sync.new.device) c.args.self.now.has_swept c.args.self.now.unsynced.has_failed c.sync.new.self.has_failed c.sync.ensures.unfailed
    (λ unfailed. both_syncs _ _ _ _ _ _ (c.sync.ensures.both honest unfailed))
