use Rattle.std.proofs.lemmas.Result.{err_from_is_err_and}
use Rattle.std.proofs.Common.{◌≡◌, ◌≢◌, [], length, arith, ap}
use Rattle.std.proofs.lemmas.Grind.{common_steps}
use Rattle.git_object.proofs.TagLemmas.{name_fault, name_wrong, name_right}
use Rattle.git_object.proofs.parts.take_tag_name.Goals as goal

pub returns-in_err-name-clause-exact : goal.returns-in_err-name-clause-exact
returns-in_err-name-clause-exact c =
    let told = err_from_is_err_and c.from_residual.result c.from_residual.ensures.1 in
    rw (told.1, told.2) (name_fault c.in_err-name.field-0.0 c.args.text.now c.in_err-name.ensures.exact)

pub returns-then-is_empty-clause-exact : goal.returns-then-is_empty-clause-exact
returns-then-is_empty-clause-exact c =
    let none : length c.in_ok-name.name.now ≡ 0 = grind (arith, common_steps) in
    name_wrong c.args.text.now c.in_ok-name.name.now c.in_ok-name.rest.now c.in_ok-name.ensures.found c.in_ok-name.ensures.plain none

pub returns-clause-name : goal.returns-clause-name
returns-clause-name c =
    let some : c.in_ok-name.name.now ≢ [] = λ none. let len : length c.in_ok-name.name.now ≡ 0 = ap length none in let no_such : ⊥ = grind (arith, common_steps) in no_such in
    name_right c.args.text.now c.in_ok-name.name.now c.in_ok-name.rest.now c.in_ok-name.ensures.found c.in_ok-name.ensures.plain some
