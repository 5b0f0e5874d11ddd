use Rattle.std.proofs.Common.{ap}
use Rattle.folder_store.specs.Calls.{Reads, standing}
use Rattle.folder_store.proofs.StandingLemmas.{call_none}
use Rattle.folder_store.proofs.folder.FolderLooseFiles.rely_on.Goals as goal

pub returns-clause-call : goal.returns-clause-call
returns-clause-call g c honest = call_none Reads _ _ (ap (standing (g.D.Device.past c.args.self.now.device) c.args.self.now.has_swept) c.note.ensures.failed)
