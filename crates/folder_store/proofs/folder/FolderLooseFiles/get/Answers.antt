use Rattle.std.proofs.Common.{refl}
use Rattle.folder_store.specs.Calls.{Reads}
use Rattle.folder_store.proofs.StandingLemmas.{call_none}
use Rattle.folder_store.proofs.folder.FolderLooseFiles.get.Goals as goal

pub returns-clause-call : goal.returns-clause-call
returns-clause-call g c honest =
    call_none Reads _ _ refl
