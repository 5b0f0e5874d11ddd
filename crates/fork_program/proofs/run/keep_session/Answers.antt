use Rattle.std.proofs.lemmas.Result.{err_from_is_err_and}
use Rattle.fork_program.specs.Running.{Cut, Unready, Unsaved}
use Rattle.fork_program.proofs.HostingLemmas.{if_err_more, on_ok_always, saved_host, untouched}
use Rattle.fork_program.proofs.run.keep_session.Goals as goal

pub returns-in_err-begun-clause-err : goal.returns-in_err-begun-clause-err
returns-in_err-begun-clause-err g c hosting host =
    let told = err_from_is_err_and c.from_residual.result c.from_residual.ensures.1 in
    rw (told.1, told.2) (Unready host.kept c.in_err-begun.ensures.cause _ host.of (untouched _ _))

pub returns-in-Ok-clause-ok : goal.returns-in-Ok-clause-ok
returns-in-Ok-clause-ok g c hosting host =
    on_ok_always c.end-saved.result (record { first = c.in_ok-begun.begun.0; last = c.session-served.new.host; host = saved_host hosting _ _ host c.in_ok-begun.ensures.saved; served = rw c.in-Ok.is at c.session-served.ensures.ok })

pub returns-in-Ok-clause-err : goal.returns-in-Ok-clause-err
returns-in-Ok-clause-err g c hosting host =
    if_err_more c.end-saved.result (λ fault is. Unsaved host.kept is (record { first = c.in_ok-begun.begun.0; last = c.session-served.new.host; host = saved_host hosting _ _ host c.in_ok-begun.ensures.saved; served = rw c.in-Ok.is at c.session-served.ensures.ok })) c.end-saved.ensures

pub returns-clause-err : goal.returns-clause-err
returns-clause-err g c hosting host = Cut _ _ (saved_host hosting _ _ host c.in_ok-begun.ensures.saved) (λ is. host.kept) (rw c.in-Err.is at c.session-served.ensures.err)
