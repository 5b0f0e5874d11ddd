use Rattle.fork_model.proofs.RunLemmas.{happenings_settled, met_settled, world_settled}
use Rattle.fork_model.proofs.runs.a_run_is_settled_by_its_replies.Goals as goal

pub returns-clause-world : goal.returns-clause-world
returns-clause-world c = world_settled

pub returns-clause-met : goal.returns-clause-met
returns-clause-met c = met_settled

pub returns-clause-happenings : goal.returns-clause-happenings
returns-clause-happenings c = happenings_settled
