use Rattle.std.proofs.Common.{sym}
use Rattle.git_header.proofs.IdentLemmas.{ident_unique}
use Rattle.git_commit.proofs.WholeLemmas.{one_commit}
use Rattle.git_commit.proofs.laws.one_value.Goals as goal

pub returns-clause-commit : goal.returns-clause-commit
returns-clause-commit c = λ bytes v w one two. one_commit bytes v w one two

pub returns-clause-ident : goal.returns-clause-ident
returns-clause-ident c = λ text v w one two. sym (ident_unique text v w one two)
