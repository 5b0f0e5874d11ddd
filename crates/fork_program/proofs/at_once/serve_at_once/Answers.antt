use Rattle.fork_program.proofs.VisitLemmas.{not_begun}
use Rattle.fork_program.proofs.at_once.serve_at_once.Goals as goal

pub returns-in_err-table-clause-served : goal.returns-in_err-table-clause-served
returns-in_err-table-clause-served g c = not_begun _
