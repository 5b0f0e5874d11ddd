use Rattle.std.proofs.Common.{inl}
use Rattle.folder_store.proofs.StandingLemmas.{forget_call, forgot_call}
use Rattle.folder_store.proofs.folder.FolderLooseFiles.forget_removed.Goals as goal

pub returns-in_err-of_device-clause-call : goal.returns-in_err-of_device-clause-call
returns-in_err-of_device-clause-call g c honest =
    forget_call (g.D.Device.past c.args.self.now.device) (g.D.Device.past c.empty_swept.new.device) c.args.self.now.has_swept c.args.self.now.has_swept c.args.self.now.unsynced.has_failed (c.empty_swept.ensures.lasts honest) (λ none. inl none)

pub returns-clause-call : goal.returns-clause-call
returns-clause-call g c honest =
    forgot_call (g.D.Device.past c.args.self.now.device) (g.D.Device.past c.empty_swept.new.device) c.args.self.now.has_swept c.args.self.now.unsynced.has_failed c.empty_swept.result c.in_ok-of_device.field-0 c.in_ok-of_device.ensures
    (c.empty_swept.ensures.lasts honest) (c.empty_swept.ensures.none honest)

pub returns-in_err-of_device-clause-places : goal.returns-in_err-of_device-clause-places
returns-in_err-of_device-clause-places g c honest = (c.empty_swept.ensures.lasts honest).places

pub returns-clause-places : goal.returns-clause-places
returns-clause-places g c honest = (c.empty_swept.ensures.lasts honest).places
