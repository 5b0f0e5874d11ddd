use Rattle.std.proofs.Common.{refl, true}
use Rattle.folder_store.specs.Calls.{Removes, standing}
use Rattle.folder_store.proofs.StandingLemmas.{call_as, remove_call}
use Rattle.folder_store.proofs.folder.FolderLooseFiles.remove.Goals as goal

pub returns-clause-call : goal.returns-clause-call
returns-clause-call g c honest =
    call_as (Removes c.args.name) _ _ _ _ refl
    (λ i. standing (g.D.Device.past c.sweep_file-answer.new.device) true (c.forget.ensures.failed i))
    (remove_call c.args.name (g.D.Device.past c.args.self.now.device) (g.D.Device.past c.sweep_file-answer.new.device) c.args.self.now.has_swept c.args.self.now.unsynced.has_failed (c.sweep_file-answer.ensures.lasts honest))
