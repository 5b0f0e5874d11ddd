use Rattle.std.proofs.Common.{◌≡◌, drop}
use Rattle.git_reftx.specs.Transaction.{changed}
use Rattle.git_reftx.proofs.carrying.carried_out.Given as goal

-- the commands that are left lead to the same end
abbrev pub invariant-loop-order : goal.invariant-loop-order
invariant-loop-order l = changed l.orders l.old ≡ changed (drop l.order-index l.orders) l.new
