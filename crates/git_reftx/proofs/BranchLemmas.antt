-- Names of branches, by test and by relation.
use Rattle.std.proofs.Common.{◌≡◌, ℕ, Bool, true, false, cond, ◌&&◌, List, Option, Some, None, refl, is_none, subst}
use Rattle.git_refname.specs.declared.rule.Rule.{Rule}
use Rattle.git_refname.specs.Rule.{least_broken_rule}
use Rattle.git_reftx.specs.Repository.{IsBranch, branch_in, is_branch_name, main_branch}
use Rattle.git_reftx.specs.Transaction.{is_branch}
use Rattle.git_reftx.proofs.BranchExamples.{main_is_a_branch}

branch_by : (text : List ℕ) (o : Option Rule) (b : Bool) → least_broken_rule text ≡ o → is_branch text ≡ b → (is_none o && b) ≡ true → IsBranch text
branch_by text None true named branch is = record { name = named; branch = branch }
branch_by text None false named branch is = absurd (cc)
branch_by text (Some rule) b named branch is = absurd (cc)

-- the branch that a text names is one, and is the text
pub branch_right : (text branch : List ℕ) → branch_in text ≡ Some branch → IsBranch branch
branch_right text branch is = by (is_branch_name text) refl is
  where
    by : (b : Bool) → is_branch_name text ≡ b → cond b (Some text) None ≡ Some branch → IsBranch branch
    by true passes found = subst IsBranch (cc) (branch_by text (least_broken_rule text) (is_branch text) refl refl passes)
    by false passes found = absurd (cc)

-- `refs/heads/main` is one
pub main_right : IsBranch main_branch
main_right = branch_right main_branch main_branch main_is_a_branch
