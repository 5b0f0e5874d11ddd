use Rattle.std.proofs.Common.{sym, subst, arith}
use Rattle.std.proofs.lemmas.List.{take_all}
use Rattle.std.specs.List.{All}
use Rattle.fork_ledger.specs.AllStaged.{IsAsTold}
use Rattle.object_table.proofs.StepLemmas.{all_more}
use Rattle.fork_ledger.proofs.ClashLemmas.{as_told, not_told}
use Rattle.fork_ledger.proofs.staging.may_stage_all.Goals as goal

pub returns-then-not-may_stage-clause-clash : goal.returns-then-not-may_stage-clause-clash
returns-then-not-may_stage-clause-clash c is_false = (
  c.sealed-item.result,
  (c.loop-sealed.sealed-index, omega arith, sym c.sealed-item.is),
  not_told c.args.holdings.now.ledgers c.sealed-item.result c.of-told.result c.of-told.ensures (c.may_stage.ensures.clash c.if-not-may_stage.true),
)

pub loop-sealed-preserved : goal.loop-sealed-preserved
loop-sealed-preserved c = all_more (IsAsTold c.args.holdings.now.ledgers) c.args.objects.now c.loop-sealed.sealed-index c.sealed-item.result (omega arith) c.sealed-item.is c.loop-sealed.invariant
    (as_told c.args.holdings.now.ledgers c.sealed-item.result c.of-told.result c.of-told.ensures (c.may_stage.ensures.may c.if-not-may_stage.false))

pub returns-clause-may : goal.returns-clause-may
returns-clause-may c is_true = subst (λ xs. All (IsAsTold c.args.holdings.now.ledgers) xs) (take_all c.loop-sealed.sealed-index c.args.objects.now (omega arith)) c.loop-sealed.invariant
