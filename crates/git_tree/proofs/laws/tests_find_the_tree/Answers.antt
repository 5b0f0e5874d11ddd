use Rattle.git_tree.proofs.TestLemmas.{tree_in_is, is_tree_in}
use Rattle.git_tree.proofs.laws.tests_find_the_tree.Goals as goal

pub returns : goal.returns
returns c = λ bytes row. (λ found. is_tree_in bytes row found, λ tree. tree_in_is bytes row tree)
