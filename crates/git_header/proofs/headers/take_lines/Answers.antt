use Rattle.std.proofs.lemmas.Result.{err_from_is_err_and}
use Rattle.git_header.specs.Header.{kind_at}
use Rattle.git_header.proofs.RowLemmas.{front_of, headers_of}
use Rattle.git_header.specs.Left.{header_of}
use Rattle.git_header.proofs.FieldLemmas.{fields_fault, fields_step}
use Rattle.git_header.proofs.headers.take_lines.Goals as goal

pub returns-in_err-after-clause-exact : goal.returns-in_err-after-clause-exact
returns-in_err-after-clause-exact g c =
    let so_far = c.headers.invariant in
    let told = err_from_is_err_and c.from_residual.result c.from_residual.ensures.1 in
    rw (told.1, told.2) (fields_fault (kind_at g.row.KIND) so_far.0 c.in_err-after.field-0.0 c.args.text.now c.headers.rest.now so_far.1 so_far.2 so_far.3 c.in_err-after.ensures.exact)

pub headers-preserved : goal.headers-preserved
headers-preserved g c =
    let so_far = c.headers.invariant in
    fields_step (kind_at g.row.KIND) so_far.0 (header_of c.in_ok-after.field-0-0) c.args.text.now c.headers.rest.now c.in_ok-after.after.now so_far.1 so_far.2 c.in_ok-after.ensures.header c.in_ok-after.ensures.parts c.in_ok-after.ensures.last

pub returns-clause-found : goal.returns-clause-found
returns-clause-found g c =
    let so_far = c.headers.invariant in
    (headers_of (kind_at g.row.KIND) so_far.0 _ so_far.1 (front_of c.args.text.now _ c.headers.rest.now so_far.2)).1
