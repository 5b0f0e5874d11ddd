use Rattle.std.proofs.Common.{◌≡◌, ℕ, List, Some, sym, ◌∙◌}
use Rattle.git_reftx.specs.Repository.{main_branch}
use Rattle.git_reftx.proofs.BranchExamples.{main_is_a_branch}
use Rattle.git_reftx.proofs.branch.Branch.main.Goals as goal

pub unreachable-requires : goal.unreachable-requires
unreachable-requires c = c.in_default.not-Some main_branch (c.read.ensures.value ∙ main_is_a_branch)

some_same : (a b : List ℕ) → Some a ≡ Some b → a ≡ b
some_same a b is = cc

pub returns : goal.returns
returns c = some_same c.in-Some.branch main_branch (sym c.in-Some.is ∙ c.read.ensures.value ∙ main_is_a_branch)
