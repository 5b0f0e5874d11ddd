use Rattle.git_header.proofs.RowLemmas.{front_of}
use Rattle.git_commit.proofs.ParentLemmas.{parents_of}
use Rattle.git_commit.proofs.CommitLemmas.{parents_more, parents_fault}
use Rattle.git_commit.proofs.parents.take_parents.Goals as goal

pub returns-in-Err-clause-exact : goal.returns-in-Err-clause-exact
returns-in-Err-clause-exact c =
    let so_far = c.lines.invariant in
    parents_fault so_far.0 c.in-Err.fault c.args.text.now c.lines.rest.now c.in-Some.field-0.now so_far.1 so_far.2 c.in-Some.ensures.found c.in-Err.ensures.exact

pub lines-preserved : goal.lines-preserved
lines-preserved c =
    let so_far = c.lines.invariant in
    parents_more so_far.0 c.in-Ok.taken.0 c.args.text.now c.lines.rest.now c.in-Ok.taken.1.now so_far.1 so_far.2 c.in-Ok.ensures.name c.in-Ok.ensures.found

pub returns-clause-found : goal.returns-clause-found
returns-clause-found c =
    let so_far = c.lines.invariant in
    (parents_of so_far.0 _ so_far.1 (front_of c.args.text.now _ c.lines.rest.now so_far.2)).1
