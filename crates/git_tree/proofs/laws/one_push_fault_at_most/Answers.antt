use Rattle.git_tree.proofs.FaultLemmas.{one_push_fault, no_push_fault}
use Rattle.git_tree.proofs.laws.one_push_fault_at_most.Goals as goal

pub returns-clause-fault : goal.returns-clause-fault
returns-clause-fault c = λ front entry fault other a b. one_push_fault fault other front entry a b

pub returns-clause-none : goal.returns-clause-none
returns-clause-none c = λ front entry fault are wrong. no_push_fault fault front entry are wrong
