use Rattle.std.proofs.Common.{take}
use Rattle.std.specs.FinMap as map
use Rattle.std.specs.Option.{option_copied}
use Rattle.git_reftx.specs.Fronts.{AreOf, IsLeastNear}
use Rattle.git_reftx.proofs.conflict.least_near.Given as goal

-- the least so far is near the commands so far
abbrev pub invariant-loop-order : goal.invariant-loop-order
invariant-loop-order l = IsLeastNear (map.keys l.references) (AreOf (take l.order-index l.orders)) (option_copied l.least)
