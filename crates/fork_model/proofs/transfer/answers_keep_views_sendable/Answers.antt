use Rattle.fork_model.proofs.SendableLemmas.{sendable_answer, sendable_run}
use Rattle.fork_model.proofs.transfer.answers_keep_views_sendable.Goals as goal

pub returns-clause-view : goal.returns-clause-view
returns-clause-view c = sendable_answer

pub returns-clause-world : goal.returns-clause-world
returns-clause-world c = sendable_run
