use Rattle.fork_model.proofs.MissingLemmas.{unheld_answer, unheld_step}
use Rattle.fork_model.proofs.missing.what_is_not_held_is_missing.Goals as goal

pub returns-clause-answer : goal.returns-clause-answer
returns-clause-answer c = unheld_answer

pub returns-clause-step : goal.returns-clause-step
returns-clause-step c = unheld_step
