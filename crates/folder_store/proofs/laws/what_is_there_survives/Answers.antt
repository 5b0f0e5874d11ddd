use Rattle.folder_store.proofs.LifeLemmas.{survives}
use Rattle.folder_store.proofs.laws.what_is_there_survives.Goals as goal

pub returns : goal.returns
returns c lives name files left is_name lived whole = survives lives name files left is_name lived whole
