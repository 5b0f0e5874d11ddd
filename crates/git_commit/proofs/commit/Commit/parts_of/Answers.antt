use Rattle.std.proofs.lemmas.Result.{err_from_is_err_and}
use Rattle.git_header.specs.View.{ident_of}
use Rattle.git_commit.specs.Left.{parents_left}
use Rattle.git_commit.proofs.CommitLemmas.{tree_fault, author_fault, committer_fault, headers_fault}
use Rattle.git_commit.proofs.WholeLemmas.{read_tree, read_parents, read_author, read_committer, read_fault, read_whole}
use Rattle.git_commit.proofs.commit.Commit.parts_of.Goals as goal

pub returns-in-Err-clause-exact : goal.returns-in-Err-clause-exact
returns-in-Err-clause-exact c =
    tree_fault c.in-Err.fault c.args.bytes.now c.in-Err.ensures.exact

pub returns-in_err-parents-clause-exact : goal.returns-in_err-parents-clause-exact
returns-in_err-parents-clause-exact c =
    let tree = read_tree c.args.bytes.now c.in-Ok.taken.0 c.in-Ok.taken.1.now c.in-Ok.ensures.name c.in-Ok.ensures.found in
    let told = err_from_is_err_and c.from_residual.result c.from_residual.ensures.1 in
    rw (told.1, told.2) (read_fault c.in_err-parents.field-0.0 c.args.bytes.now _ _ c.in-Ok.taken.1.now tree c.in_err-parents.ensures.exact)

pub returns-in_err-author-clause-exact : goal.returns-in_err-author-clause-exact
returns-in_err-author-clause-exact c =
    let tree = read_tree c.args.bytes.now c.in-Ok.taken.0 c.in-Ok.taken.1.now c.in-Ok.ensures.name c.in-Ok.ensures.found in
    let parents = read_parents c.args.bytes.now c.in-Ok.taken.1.now c.in_ok-parents.rest.now (parents_left c.in_ok-parents.parents) _ tree c.in_ok-parents.ensures.names c.in_ok-parents.ensures.found in
    let told = err_from_is_err_and c.from_residual-in_err-author.result c.from_residual-in_err-author.ensures.1 in
    rw (told.1, told.2) (read_fault c.in_err-author.field-0.0 c.args.bytes.now _ _ c.in_ok-parents.rest.now parents (author_fault c.in_err-author.field-0.0 c.in_ok-parents.rest.now c.in_ok-parents.ensures.last c.in_err-author.ensures.exact))

pub returns-in_err-committer-clause-exact : goal.returns-in_err-committer-clause-exact
returns-in_err-committer-clause-exact c =
    let tree = read_tree c.args.bytes.now c.in-Ok.taken.0 c.in-Ok.taken.1.now c.in-Ok.ensures.name c.in-Ok.ensures.found in
    let parents = read_parents c.args.bytes.now c.in-Ok.taken.1.now c.in_ok-parents.rest.now (parents_left c.in_ok-parents.parents) _ tree c.in_ok-parents.ensures.names c.in_ok-parents.ensures.found in
    let author = read_author c.args.bytes.now c.in_ok-parents.rest.now c.in_ok-author.rest.now (ident_of c.in_ok-author.author) _ parents c.in_ok-author.ensures.ident c.in_ok-author.ensures.found in
    let told = err_from_is_err_and c.from_residual-in_err-committer.result c.from_residual-in_err-committer.ensures.1 in
    rw (told.1, told.2) (read_fault c.in_err-committer.field-0.0 c.args.bytes.now _ _ c.in_ok-author.rest.now author (committer_fault c.in_err-committer.field-0.0 c.in_ok-author.rest.now c.in_err-committer.ensures.exact))

pub returns-in_err-headers-clause-exact : goal.returns-in_err-headers-clause-exact
returns-in_err-headers-clause-exact c =
    let tree = read_tree c.args.bytes.now c.in-Ok.taken.0 c.in-Ok.taken.1.now c.in-Ok.ensures.name c.in-Ok.ensures.found in
    let parents = read_parents c.args.bytes.now c.in-Ok.taken.1.now c.in_ok-parents.rest.now (parents_left c.in_ok-parents.parents) _ tree c.in_ok-parents.ensures.names c.in_ok-parents.ensures.found in
    let author = read_author c.args.bytes.now c.in_ok-parents.rest.now c.in_ok-author.rest.now (ident_of c.in_ok-author.author) _ parents c.in_ok-author.ensures.ident c.in_ok-author.ensures.found in
    let committer = read_committer c.args.bytes.now c.in_ok-author.rest.now c.in_ok-committer.rest.now (ident_of c.in_ok-committer.committer) _ author c.in_ok-committer.ensures.ident c.in_ok-committer.ensures.found in
    let told = err_from_is_err_and c.from_residual-in_err-headers.result c.from_residual-in_err-headers.ensures.1 in
    rw (told.1, told.2) (read_fault c.in_err-headers.field-0.0 c.args.bytes.now _ _ c.in_ok-committer.rest.now committer (headers_fault c.in_err-headers.field-0.0 c.in_ok-committer.rest.now c.in_err-headers.ensures.exact))

pub returns-clause-found : goal.returns-clause-found
returns-clause-found c =
    let tree = read_tree c.args.bytes.now c.in-Ok.taken.0 c.in-Ok.taken.1.now c.in-Ok.ensures.name c.in-Ok.ensures.found in
    let parents = read_parents c.args.bytes.now c.in-Ok.taken.1.now c.in_ok-parents.rest.now (parents_left c.in_ok-parents.parents) _ tree c.in_ok-parents.ensures.names c.in_ok-parents.ensures.found in
    let author = read_author c.args.bytes.now c.in_ok-parents.rest.now c.in_ok-author.rest.now (ident_of c.in_ok-author.author) _ parents c.in_ok-author.ensures.ident c.in_ok-author.ensures.found in
    let committer = read_committer c.args.bytes.now c.in_ok-author.rest.now c.in_ok-committer.rest.now (ident_of c.in_ok-committer.committer) _ author c.in_ok-committer.ensures.ident c.in_ok-committer.ensures.found in
    read_whole c.args.bytes.now c.in_ok-committer.rest.now _ c.in-Ok.ensures.name c.in_ok-parents.ensures.names c.in_ok-author.ensures.ident c.in_ok-committer.ensures.ident committer c.in_ok-headers.ensures.right c.in_ok-headers.ensures.found
