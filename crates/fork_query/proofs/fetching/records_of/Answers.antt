use Rattle.std.proofs.lemmas.Result.{IfOk-weaker}
use Rattle.fork_query.proofs.fetching.records_of.Goals as goal

pub returns-clause-sent : goal.returns-clause-sent
returns-clause-sent g c = λ honest.
    let listed = c.in-Ok.ensures in
    IfOk-weaker c.send_all.result _ _ (λ text sent. (c.in-Ok.names.items, listed.order, listed.same, sent)) (c.send_all.ensures.sent honest)
