use Rattle.folder_store.proofs.SyncLemmas.{all_false}
use Rattle.folder_store.proofs.unsynced.Unsynced.new.Goals as goal

pub returns-clause-homes : goal.returns-clause-homes
returns-clause-homes c first = all_false 256 first
