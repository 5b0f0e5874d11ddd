use Rattle.std.proofs.lemmas.Result.{err_from_is_err_and}
use Rattle.git_header.proofs.RowLemmas.{front_of, more_of_values}
use Rattle.git_header.proofs.FieldLemmas.{more_fault, more_step}
use Rattle.git_header.proofs.continuation.take_more.Goals as goal

pub returns-in_err-after-clause-exact : goal.returns-in_err-after-clause-exact
returns-in_err-after-clause-exact c =
    let so_far = c.lines.invariant in
    let told = err_from_is_err_and c.from_residual.result c.from_residual.ensures.1 in
    rw (told.1, told.2) (λ kind. more_fault kind so_far.0 c.in_err-after.field-0.0 c.args.text.now c.lines.rest.now c.in-Some.field-0.now so_far.1 so_far.2 c.in-Some.ensures.found c.in_err-after.ensures.exact)

pub lines-preserved : goal.lines-preserved
lines-preserved c =
    let so_far = c.lines.invariant in
    more_step so_far.0 c.args.text.now c.lines.rest.now c.in-Some.field-0.now c.in_ok-after.field-0-0.now c.in_ok-after.after.now so_far.1 so_far.2 c.in-Some.ensures.found c.in_ok-after.ensures.found c.in_ok-after.ensures.plain

pub returns-clause-found : goal.returns-clause-found
returns-clause-found c =
    let so_far = c.lines.invariant in
    (more_of_values so_far.0 _ so_far.1 (front_of c.args.text.now _ c.lines.rest.now so_far.2)).1
