-- Example names, and the branches that they name.
use Rattle.std.proofs.Common.{◌≡◌, None, Some, refl}
use Rattle.std.specs.Prelude.{codes}
use Rattle.git_refname.specs.Rule.{least_broken_rule}
use Rattle.git_reftx.specs.Repository.{branch_in, main_branch}

pub main_is_a_branch : branch_in main_branch ≡ Some main_branch
unfolding least_broken_rule
main_is_a_branch = refl

pub a_tag_is_no_branch : branch_in (codes "refs/tags/v") ≡ None
unfolding least_broken_rule
a_tag_is_no_branch = refl

pub head_is_no_branch : branch_in (codes "HEAD") ≡ None
unfolding least_broken_rule
head_is_no_branch = refl

-- a name that breaks a rule is no branch, whatever it begins with
pub two_dots_are_in_no_branch : branch_in (codes "refs/heads/a..b") ≡ None
unfolding least_broken_rule
two_dots_are_in_no_branch = refl

-- nothing follows the `/`
pub a_folder_is_no_branch : branch_in (codes "refs/heads/") ≡ None
unfolding least_broken_rule
a_folder_is_no_branch = refl
