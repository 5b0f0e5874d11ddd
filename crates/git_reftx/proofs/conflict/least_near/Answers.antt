use Rattle.std.proofs.Common.{◌≡◌, subst}
use Rattle.std.specs.FinMap as map
use Rattle.std.specs.Option.{option_copied}
use Rattle.git_reftx.specs.Fronts.{IsLeastNear}
use Rattle.git_reftx.proofs.NearLemmas.{near_more}
use Rattle.git_reftx.proofs.conflict.least_near.Goals as goal

pub loop-order-preserved : goal.loop-order-preserved
loop-order-preserved c =
    near_more (map.keys c.args.references.now) c.args.orders.now c.loop-order.order-index c.order-item.result (option_copied c.loop-order.least) (option_copied c.upper_at.result) (option_copied c.lesser_of-least.result)
    c.loop-order-test.true c.order-item.is c.loop-order.invariant
    (subst (λ n. IsLeastNear (map.keys c.args.references.now) (λ q. n ≡ q) (option_copied c.upper_at.result)) c.reference.ensures c.upper_at.ensures) c.lesser_of-least.ensures
