use Rattle.fork_model.proofs.TransferLemmas.{arrived}
use Rattle.fork_model.proofs.transfer.what_is_fetched_is_enough.Goals as goal

pub returns : goal.returns
returns c = arrived
