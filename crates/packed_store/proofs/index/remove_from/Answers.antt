use Rattle.git_name.proofs.HashMaps.{sets_by_test}
use Rattle.packed_store.proofs.index.remove_from.Goals as goal

pub returns : goal.returns
returns c = sets_by_test _ _ _ _ c.swap_remove.ensures.updates.0
