use Rattle.std.proofs.lemmas.Result.{err_from_is_err_and}
use Rattle.git_object.proofs.TagLemmas.{tagger_fault}
use Rattle.git_object.proofs.parts.take_tagger.Goals as goal

pub returns-in_err-tagger-clause-exact : goal.returns-in_err-tagger-clause-exact
returns-in_err-tagger-clause-exact c =
    let told = err_from_is_err_and c.from_residual.result c.from_residual.ensures.1 in
    rw (told.1, told.2) (tagger_fault c.in_err-tagger.field-0.0 c.args.text.now c.in-Some.field-0.now c.in-Some.ensures.found c.in_err-tagger.ensures.exact
    )
