use Rattle.packed_store.proofs.OpeningLemmas.{one_opening}
use Rattle.packed_store.proofs.laws.one_opening.Goals as goal

pub returns : goal.returns
returns c = one_opening
