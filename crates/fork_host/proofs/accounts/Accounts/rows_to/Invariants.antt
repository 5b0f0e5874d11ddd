use Rattle.std.proofs.Common.{◌≡◌, ◌++◌}
use Rattle.std.specs.List.{flat_map}
use Rattle.std.specs.FinMap.{entries}
use Rattle.fork_host.specs.Made.{rows_from}
use Rattle.fork_host.proofs.accounts.Accounts.rows_to.Given as goal

-- the rows so far, and then those of the accounts that are left, are all
abbrev pub invariant-loop-name : goal.invariant-loop-name
invariant-loop-name l = l.rows.items ++ flat_map (λ entry. rows_from entry.0 l.fn.receiver entry.1.made) l.name-iterator ≡ flat_map (λ entry. rows_from entry.0 l.fn.receiver entry.1.made) (entries l.fn.self)
