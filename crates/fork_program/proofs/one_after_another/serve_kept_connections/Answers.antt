use Rattle.std.proofs.Common.{rules}
use Rattle.std.proofs.lemmas.Result.{err_from_is_err_and}
use Rattle.fork_program.proofs.VisitLemmas.{one_more, one_saved, some_visits}
use Rattle.fork_program.proofs.one_after_another.serve_kept_connections.Goals as goal

pub loop-preserved : goal.loop-preserved
loop-preserved g c = one_saved _ _ _ _ _ c.loop.invariant c.kept_connection.ensures.served c.settle.ensures.saved

pub returns-in_err-kept_connection-clause-err : goal.returns-in_err-kept_connection-clause-err
returns-in_err-kept_connection-clause-err g c =
    let told = err_from_is_err_and c.from_residual.result c.from_residual.ensures.1 in
    rw told.1 (some_visits _ _ _ _ (one_more _ _ _ _ c.loop.invariant c.kept_connection.ensures.served) (search rules))

pub returns-in_err-settle-clause-err : goal.returns-in_err-settle-clause-err
returns-in_err-settle-clause-err g c =
    let told = err_from_is_err_and c.from_residual-in_err-settle.result c.from_residual-in_err-settle.ensures.1 in
    rw told.1 (some_visits _ _ _ _ (one_saved _ _ _ _ _ c.loop.invariant c.kept_connection.ensures.served c.settle.ensures.saved) (search rules))
