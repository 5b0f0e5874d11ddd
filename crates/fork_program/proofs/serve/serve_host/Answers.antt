use Rattle.std.proofs.lemmas.Result.{err_from_is_err_and, on_ok_weaker}
use Rattle.fork_program.specs.Serving.{Unbound}
use Rattle.fork_program.proofs.HostingLemmas.{deaf}
use Rattle.fork_program.proofs.serve.serve_host.Goals as goal

pub returns-in_err-listening-clause-err : goal.returns-in_err-listening-clause-err
returns-in_err-listening-clause-err g c hosting host =
    let told = err_from_is_err_and c.from_residual.result c.from_residual.ensures.1 in
    rw (told.1, told.2) (Unbound _ host c.in_err-listening.ensures)

pub returns-in_err-show-clause-err : goal.returns-in_err-show-clause-err
returns-in_err-show-clause-err g c hosting host =
    let told = err_from_is_err_and c.from_residual-in_err-show.result c.from_residual-in_err-show.ensures.1 in
    rw (told.1, told.2) (Unbound _ host c.in_err-show.ensures)

pub returns-clause-ok : goal.returns-clause-ok
returns-clause-ok g c hosting host = on_ok_weaker c.serve_at.result (λ served. record { first = _; last = c.serve_at.new.host; host = host; served = served }) c.serve_at.ensures.ok

pub returns-clause-err : goal.returns-clause-err
returns-clause-err g c hosting host = deaf _ _ _ _ _ c.serve_at.result host c.serve_at.ensures.err c.serve_at.ensures.cause
