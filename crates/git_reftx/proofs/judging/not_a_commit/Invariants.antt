use Rattle.std.proofs.Common.{◌≡◌, None, take}
use Rattle.git_reftx.specs.Transaction.{first_refusal, is_branch, not_a_commit}
use Rattle.git_reftx.proofs.judging.not_a_commit.Given as goal

-- no earlier command is refused
abbrev pub invariant-loop-order : goal.invariant-loop-order
invariant-loop-order g l = first_refusal (λ command. not_a_commit (g.K.Known.kinds l.known) (is_branch command.reference) command.change) (take l.order-index l.orders) ≡ None
