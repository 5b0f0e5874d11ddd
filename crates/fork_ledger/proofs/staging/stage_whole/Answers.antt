use Rattle.fork_ledger.proofs.ClashLemmas.{as_told, clash_meets, not_told}
use Rattle.fork_ledger.proofs.staging.stage_whole.Goals as goal

pub returns-then-not-may_stage-clause-collision : goal.returns-then-not-may_stage-clause-collision
returns-then-not-may_stage-clause-collision g c = λ h stored is.
    let m = c.args.holdings.now.ledgers in
    clash_meets c.args.files.now.contents m c.args.sealed stored (not_told m c.args.sealed c.of-entry.result c.of-entry.ensures (c.may_stage.ensures.clash c.if-not-may_stage.true))

pub returns-clause-met : goal.returns-clause-met
returns-clause-met g c = λ refuses. absurd (refuses (as_told c.args.holdings.now.ledgers c.args.sealed c.of-entry.result c.of-entry.ensures (c.may_stage.ensures.may c.if-not-may_stage.false)))
