use Rattle.state_text.proofs.FaultLemmas as fault
use Rattle.state_text.proofs.laws.one_wrong_line.Goals as goal

pub returns-clause-one : goal.returns-clause-one
returns-clause-one c = fault.one_wrong_line

pub returns-clause-none : goal.returns-clause-none
returns-clause-none c = fault.none_wrong
