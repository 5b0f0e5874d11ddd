use Rattle.git_tree.proofs.FaultLemmas.{one_fault, no_tree}
use Rattle.git_tree.proofs.laws.one_fault_at_most.Goals as goal

pub returns-clause-fault : goal.returns-clause-fault
returns-clause-fault c = λ bytes fault other a b. one_fault fault other bytes a b

pub returns-clause-none : goal.returns-clause-none
returns-clause-none c = λ bytes fault row tree wrong. no_tree fault bytes row tree wrong
