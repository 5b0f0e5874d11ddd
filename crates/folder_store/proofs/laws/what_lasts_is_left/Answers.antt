use Rattle.folder_store.proofs.LastingLemmas.{left_whole}
use Rattle.folder_store.proofs.laws.what_lasts_is_left.Goals as goal

pub returns : goal.returns
returns c past name left is_name safe may = left_whole past name left is_name safe may
