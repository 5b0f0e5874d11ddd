use Rattle.git_commit.proofs.CommitLemmas.{no_commit, one_commit_fault}
use Rattle.git_commit.proofs.laws.one_fault.Goals as goal

pub returns-clause-one : goal.returns-clause-one
returns-clause-one c = λ bytes f g one two. one_commit_fault bytes f g one two

pub returns-clause-none : goal.returns-clause-none
returns-clause-none c = λ bytes v f is wrong. no_commit f bytes v is wrong
