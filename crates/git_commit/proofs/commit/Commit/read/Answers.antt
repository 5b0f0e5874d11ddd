use Rattle.git_commit.specs.Whole.{commit_of}
use Rattle.git_commit.proofs.CommitInLemmas.{read_value}
use Rattle.git_commit.proofs.ReadLemmas.{only_one}
use Rattle.git_commit.proofs.commit.Commit.read.Goals as goal

pub returns-clause-only : goal.returns-clause-only
returns-clause-only c value is = only_one commit_of c.args.bytes.now c.parts_of.result value c.parts_of.ensures.found c.parts_of.ensures.exact is

pub returns-clause-value : goal.returns-clause-value
returns-clause-value c = read_value commit_of c.args.bytes.now c.parts_of.result c.parts_of.ensures.found c.parts_of.ensures.exact
