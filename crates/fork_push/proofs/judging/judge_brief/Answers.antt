use Rattle.fork_push.proofs.OrderLemmas.{orderly}
use Rattle.fork_push.proofs.judging.judge_brief.Goals as goal

pub returns-in-Ok-None-clause-accepted : goal.returns-in-Ok-None-clause-accepted
returns-in-Ok-None-clause-accepted g c =
    orderly (g.S.Source.state c.judge_sent.new.source).objects (g.S.Source.state c.args.sides.now).objects c.args.references.now c.args.limit c.as_slice-in-Ok-None.result.now c.judge_transaction.result
    c.in-Ok-None.ensures.asked.measures c.judge_transaction.ensures.judged
