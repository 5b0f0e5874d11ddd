use Rattle.std.proofs.lemmas.Result.{err_from_is_err_and}
use Rattle.state_text.proofs.WrongLemmas.{tenant_wrong}
use Rattle.state_text.proofs.taking.take_tenant.Goals as goal

pub returns-in_err-push-clause-wrong : goal.returns-in_err-push-clause-wrong
returns-in_err-push-clause-wrong c =
    let told = err_from_is_err_and c.from_residual.result c.from_residual.ensures.1 in
    rw (told.1, told.2) (tenant_wrong c.args.states.now c.in-Some.tenant c.args.rest.now _ c.name-name.ensures.sound c.in-Some.ensures.found.1 c.in_err-push.ensures.cause)
