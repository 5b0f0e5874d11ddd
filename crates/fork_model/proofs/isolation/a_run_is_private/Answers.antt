use Rattle.fork_model.proofs.Meetings.{run_alone, run_private}
use Rattle.fork_model.proofs.isolation.a_run_is_private.Goals as goal

pub returns-clause-replies : goal.returns-clause-replies
returns-clause-replies c = λ t old new steps replies view run fine leaves here. (run_alone t old new steps replies view run fine leaves here).0

pub returns-clause-view : goal.returns-clause-view
returns-clause-view c = λ t old new steps replies view run fine leaves here. (run_alone t old new steps replies view run fine leaves here).1

pub returns-clause-replies_met : goal.returns-clause-replies_met
returns-clause-replies_met c = λ t old new steps replies view run fine here. (run_private t old new steps replies view run fine here).0

pub returns-clause-view_met : goal.returns-clause-view_met
returns-clause-view_met c = λ t old new steps replies view run fine here. (run_private t old new steps replies view run fine here).1
