use Rattle.fork_host.proofs.FaultLemmas.{collides, fails, undamaged}
use Rattle.fork_host.proofs.laws.faults_of_a_run_have_a_cause.Goals as goal

pub returns : goal.returns
returns c = record { collision = collides; damaged = undamaged; store = fails }
