use Rattle.fork_model.proofs.LackingLemmas.{lacking_answer, lacking_step, lacking_world}
use Rattle.fork_model.proofs.ToldMissing.{missing_of, missing_step}
use Rattle.fork_model.proofs.missing.what_is_lacking_is_missing.Goals as goal

pub returns-clause-answer : goal.returns-clause-answer
returns-clause-answer c = lacking_answer

pub returns-clause-step : goal.returns-clause-step
returns-clause-step c = lacking_step

pub returns-clause-world : goal.returns-clause-world
returns-clause-world c = lacking_world

pub returns-clause-only : goal.returns-clause-only
returns-clause-only c = missing_of

pub returns-clause-only_step : goal.returns-clause-only_step
returns-clause-only_step c = missing_step
