use Rattle.std.proofs.lemmas.Result.{err_from_is_err_and, on_ok_weaker}
use Rattle.fork_program.specs.Running.{Cut, Unhosted}
use Rattle.fork_program.proofs.HostingLemmas.{if_err_both, untouched}
use Rattle.fork_program.proofs.run.run_in_memory.Goals as goal

pub returns-in_err-host-clause-err : goal.returns-in_err-host-clause-err
returns-in_err-host-clause-err g c =
    let told = err_from_is_err_and c.from_residual.result c.from_residual.ensures.1 in
    rw (told.1, told.2) (Unhosted c.in_err-host.ensures.err (untouched _ _))

pub returns-clause-ok : goal.returns-clause-ok
returns-clause-ok g c = on_ok_weaker c.session.result (λ served. record { first = c.in_ok-host.host; last = c.session.new.host; host = c.in_ok-host.ensures.ok; served = served }) c.session.ensures.ok

pub returns-clause-err : goal.returns-clause-err
returns-clause-err g c = if_err_both _ c.session.result (λ fault cut never. Cut _ _ c.in_ok-host.ensures.ok (λ is. absurd (never is)) cut) c.session.ensures.err c.session.ensures.cause
