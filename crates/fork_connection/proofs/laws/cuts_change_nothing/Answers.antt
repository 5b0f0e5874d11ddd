use Rattle.fork_connection.proofs.LawLemmas as law
use Rattle.fork_connection.proofs.laws.cuts_change_nothing.Goals as goal

pub returns-clause-taken : goal.returns-clause-taken
returns-clause-taken c = law.takes_what_came

pub returns-clause-cuts : goal.returns-clause-cuts
returns-clause-cuts c = law.cuts_change_nothing
