use Rattle.folder_store.proofs.StandingLemmas.{still_lasts}
use Rattle.folder_store.proofs.laws.what_lasts_goes_on.Goals as goal

pub returns : goal.returns
returns c calls old new name is_name all none told unfailed lasts = still_lasts calls old new name is_name all none told unfailed lasts
