-- Why a reference is not appended (own).
use Rattle.std.specs.Prelude.{◌≡◌, ℕ, ◌≤◌, true, All, List, ⊤}
use Rattle.std.specs.FinMap.{keys, len}
use Rattle.std.specs.List.{list_any}
use Rattle.git_reftx.specs.declared.fault.PushRefError.{PushRefError}
use Rattle.git_reftx.specs.declared.fault.PushRefError.TheVariants.{OutOfOrder, RefConflict, TooMany, Memory}
use Rattle.git_reftx.specs.declared.transact.TheConstants.{MAX_REFERENCES}
use Rattle.git_reftx.specs.Fronts.{Before}
use Rattle.git_reftx.specs.Transaction.{References, stands_above}

-- the error reports why: some name is not before this one, or one is above it, or there are too many; running out of memory reports
-- nothing
abbrev pub TellsPush : References → List ℕ → PushRefError → Type 0
TellsPush old name OutOfOrder = ¬ All (λ other. Before other name) (keys old)
TellsPush old name RefConflict = list_any (λ upper. stands_above upper name) (keys old) ≡ true
TellsPush old name TooMany = MAX_REFERENCES ≤ len old
TellsPush old name Memory = ⊤
