use Rattle.fork_program.proofs.ServingLemmas.{one_run}
use Rattle.fork_program.proofs.laws.a_serving_is_one_run.Goals as goal

pub returns : goal.returns
returns c = one_run
