use Rattle.std.proofs.lemmas.Result.{err_from_is_err_and}
use Rattle.git_object.proofs.TagLemmas.{type_fault, type_wrong}
use Rattle.git_object.proofs.parts.take_type.Goals as goal

pub returns-in_err-word-clause-exact : goal.returns-in_err-word-clause-exact
returns-in_err-word-clause-exact c =
    let told = err_from_is_err_and c.from_residual.result c.from_residual.ensures.1 in
    rw (told.1, told.2) (type_fault c.in_err-word.field-0.0 c.args.text.now c.in_err-word.ensures.exact)

pub returns-in_default-clause-exact : goal.returns-in_default-clause-exact
returns-in_default-clause-exact c = type_wrong c.args.text.now c.in_ok-word.word.now c.in_ok-word.rest.now c.in_ok-word.ensures.found c.in_ok-word.ensures.plain c.in_default.ensures.none
