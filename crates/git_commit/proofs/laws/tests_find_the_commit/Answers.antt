use Rattle.git_commit.proofs.CommitInLemmas.{commit_in_is, is_commit_in}
use Rattle.git_commit.proofs.laws.tests_find_the_commit.Goals as goal

pub returns-clause-found : goal.returns-clause-found
returns-clause-found c = λ bytes commit h. is_commit_in bytes commit h

pub returns-clause-only : goal.returns-clause-only
returns-clause-only c = λ bytes commit is. commit_in_is bytes commit is
