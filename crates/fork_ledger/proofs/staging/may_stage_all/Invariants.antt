use Rattle.std.proofs.Common.{take}
use Rattle.std.specs.List.{All}
use Rattle.fork_ledger.specs.AllStaged.{IsAsTold}
use Rattle.fork_ledger.proofs.staging.may_stage_all.Given as goal

-- the objects so far are as told
abbrev pub invariant-loop-sealed : goal.invariant-loop-sealed
invariant-loop-sealed l = All (IsAsTold l.holdings.ledgers) (take l.sealed-index l.objects)
