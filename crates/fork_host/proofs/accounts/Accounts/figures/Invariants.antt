use Rattle.std.proofs.Common.{◌≡◌, ◌++◌, List, ℕ}
use Rattle.std.specs.FinMap.{entries}
use Rattle.fork_host.specs.Shown.{Account}
use Rattle.fork_host.proofs.FigureLemmas.{lines_by}
use Rattle.fork_host.proofs.accounts.Accounts.figures.Given as goal

-- the lines are those of the accounts so far
abbrev pub invariant-loop-name : goal.invariant-loop-name
invariant-loop-name g l =
    (before : List (List ℕ × Account)) × (before ++ l.name-iterator ≡ entries l.fn.self) × (l.text.items ≡ lines_by l.fn.vault before)
