use Rattle.std.proofs.Common.{◌≡◌, ◌++◌, List, ℕ}
use Rattle.std.specs.FinMap.{entries}
use Rattle.fork_host.specs.Shown.{Account}
use Rattle.fork_host.specs.Uploads.{uploading_in}
use Rattle.fork_host.proofs.accounts.Accounts.uploading.Given as goal

-- the names are those of the accounts so far
abbrev pub invariant-loop-name : goal.invariant-loop-name
invariant-loop-name l = (before : List (List ℕ × Account)) × (before ++ l.name-iterator ≡ entries l.fn.self) × (l.names.items ≡ uploading_in before)
