use Rattle.fork_model.proofs.FetchLemmas.{fetch_pushed}
use Rattle.fork_model.proofs.transfer.what_is_fetched_can_be_pushed.Goals as goal

pub returns : goal.returns
returns c = fetch_pushed
