use Rattle.std.proofs.Common.{◌≡◌, None, take}
use Rattle.git_reftx.specs.Transaction.{first_refusal, stale}
use Rattle.git_reftx.proofs.judging.stale.Given as goal

-- no earlier command is refused
abbrev pub invariant-loop-order : goal.invariant-loop-order
invariant-loop-order l = first_refusal (stale l.old) (take l.order-index l.orders) ≡ None
