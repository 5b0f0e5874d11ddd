use Rattle.fork_model.proofs.TakenLemmas.{fetched_judged, fetched_pushed}
use Rattle.fork_model.proofs.transfer.what_is_fetched_is_taken.Goals as goal

pub returns-clause-verdict : goal.returns-clause-verdict
returns-clause-verdict c = fetched_judged

pub returns-clause-push : goal.returns-clause-push
returns-clause-push c = fetched_pushed
