use Rattle.std.proofs.Common.{◌≡◌, None, take}
use Rattle.git_reftx.specs.Transaction.{bad_ref, first_refusal}
use Rattle.git_reftx.proofs.judging.orders_of.Given as goal

-- the earlier commands are in the list, and none is refused
abbrev pub invariant-loop-command : goal.invariant-loop-command
invariant-loop-command l = record {
  taken : l.orders.items ≡ take l.command-index l.commands;
  none : first_refusal bad_ref (take l.command-index l.commands) ≡ None;
}
