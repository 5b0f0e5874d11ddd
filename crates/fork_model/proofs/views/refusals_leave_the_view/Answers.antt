use Rattle.fork_model.proofs.Refusals.{refusal_keeps}
use Rattle.fork_model.proofs.StepLemmas.{answer_tells}
use Rattle.fork_model.proofs.views.refusals_leave_the_view.Goals as goal

pub returns-clause-view : goal.returns-clause-view
returns-clause-view c = refusal_keeps

pub returns-clause-reply : goal.returns-clause-reply
returns-clause-reply c = answer_tells
