use Rattle.git_name.proofs.HashMaps.{sets_by_test}
use Rattle.packed_store.proofs.index.insert_into.Goals as goal

pub returns-clause-ok : goal.returns-clause-ok
returns-clause-ok c = sets_by_test _ _ _ _ c.in_ok-insert.ensures.updates.0
