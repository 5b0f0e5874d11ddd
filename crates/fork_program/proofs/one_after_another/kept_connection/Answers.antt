use Rattle.fork_program.proofs.VisitLemmas.{not_begun}
use Rattle.fork_program.proofs.one_after_another.kept_connection.Goals as goal

pub returns-in_default-clause-served : goal.returns-in_default-clause-served
returns-in_default-clause-served g c = not_begun _

pub returns-in_default-new-clause-served : goal.returns-in_default-new-clause-served
returns-in_default-new-clause-served g c = not_begun _
