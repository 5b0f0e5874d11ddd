use Rattle.std.proofs.lemmas.Result.{err_from_is_err_and}
use Rattle.fork_program.specs.Serving.{Unbound}
use Rattle.fork_program.proofs.serve.serve_kept_host.Goals as goal

pub returns-in_err-listening-clause-err : goal.returns-in_err-listening-clause-err
returns-in_err-listening-clause-err g c hosting host =
    let told = err_from_is_err_and c.from_residual.result c.from_residual.ensures.1 in
    rw (told.1, told.2) (Unbound _ host.of c.in_err-listening.ensures)
