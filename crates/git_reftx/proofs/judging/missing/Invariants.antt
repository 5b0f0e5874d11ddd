use Rattle.std.proofs.Common.{◌≡◌, None, take}
use Rattle.git_reftx.specs.Transaction.{first_refusal, missing_object}
use Rattle.git_reftx.proofs.judging.missing.Given as goal

-- no earlier command is refused
abbrev pub invariant-loop-order : goal.invariant-loop-order
invariant-loop-order g l = first_refusal (λ command. missing_object (g.K.Known.kinds l.known) command.change) (take l.order-index l.orders) ≡ None
