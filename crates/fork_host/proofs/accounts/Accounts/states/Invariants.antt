use Rattle.std.proofs.Common.{◌≡◌, ◌++◌, List, ℕ, map}
use Rattle.std.specs.FinMap.{entries}
use Rattle.state_text.specs.Kept.{state_kept}
use Rattle.fork_host.specs.Shown.{Account, entry_shown}
use Rattle.fork_host.proofs.accounts.Accounts.states.Given as goal

-- the states are those of the accounts so far
abbrev pub invariant-loop-name : goal.invariant-loop-name
invariant-loop-name g l =
    (before : List (List ℕ × Account)) × (before ++ l.name-iterator ≡ entries l.fn.self) × (l.states ≡ map state_kept (map (entry_shown l.fn.vault) before))
