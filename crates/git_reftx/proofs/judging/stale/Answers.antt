use Rattle.std.proofs.Common.{◌≡◌, true, false, ap, sym, ◌∙◌, arith, rules}
use Rattle.std.specs.FinMap.{get}
use Rattle.git_reftx.specs.Transaction.{stale}
use Rattle.git_reftx.proofs.RefusalLemmas.{refused_at, none_refused, stale_is, stale_not}
use Rattle.git_reftx.proofs.judging.stale.Goals as goal

pub returns-then-not-is_met : goal.returns-then-not-is_met
returns-then-not-is_met c =
    let old = c.args.old.now in
    let item = c.order-item.result in
    let unmet : c.is_met.result ≡ false = search rules in
    sym (refused_at (stale old) c.args.orders.now c.loop-order.order-index item _ (omega arith) c.loop-order.invariant c.order-item.is
    (stale_is old item c.demand.result c.get-target.result c.is_met.result c.copy.result c.demand.ensures (c.get-target.ensures ∙ ap (get old) c.reference.ensures) c.is_met.ensures unmet
    (c.copy.ensures ∙ c.reference-then-not-is_met.ensures)))

pub loop-order-preserved : goal.loop-order-preserved
loop-order-preserved c =
    let old = c.args.old.now in
    let item = c.order-item.result in
    let met : c.is_met.result ≡ true = search rules in
    none_refused (stale old) c.args.orders.now c.loop-order.order-index item (omega arith) c.loop-order.invariant c.order-item.is
    (stale_not old item c.demand.result c.get-target.result c.is_met.result c.demand.ensures (c.get-target.ensures ∙ ap (get old) c.reference.ensures) c.is_met.ensures met)
