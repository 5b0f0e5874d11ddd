use Rattle.std.proofs.Common.{inl}
use Rattle.std.proofs.lemmas.Result.{err_from_is_err_and}
use Rattle.fork_program.proofs.ChangingLemmas.{unrenewed}
use Rattle.fork_program.proofs.tenants.set_limit.Goals as goal

pub returns-in_err-host-clause-err : goal.returns-in_err-host-clause-err
returns-in_err-host-clause-err g c =
    let told = err_from_is_err_and c.from_residual.result c.from_residual.ensures.1 in
    rw (told.1, told.2) (inl (unrenewed _ c.in_err-host.ensures))
