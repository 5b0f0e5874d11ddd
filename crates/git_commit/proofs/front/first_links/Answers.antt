use Rattle.git_commit.specs.Left.{parents_left}
use Rattle.git_commit.proofs.FrontLemmas.{parents_behind, tree_first}
use Rattle.git_commit.proofs.front.first_links.Goals as goal

pub returns-clause-tree : goal.returns-clause-tree
returns-clause-tree c value is = tree_first value c.in-Ok.taken.0 c.in-Ok.taken.1.now c.args.bytes.now c.in-Ok.ensures.name c.in-Ok.ensures.found is

pub returns-clause-parents : goal.returns-clause-parents
returns-clause-parents c value is =
    parents_behind value c.in-Ok.taken.0 c.in-Ok.taken.1.now c.in-Ok-take.taken.1.now c.args.bytes.now (parents_left c.in-Ok-take.taken.0) c.in-Ok.ensures.name c.in-Ok.ensures.found is
    c.in-Ok-take.ensures.names c.in-Ok-take.ensures.found c.in-Ok-take.ensures.last
