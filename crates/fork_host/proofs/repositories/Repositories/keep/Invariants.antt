use Rattle.std.proofs.Common.{◌≡◌}
use Rattle.std.specs.FinMap.{entries}
use Rattle.fork_host.specs.Keeping.{with_repositories}
use Rattle.fork_host.proofs.repositories.Repositories.keep.Given as goal

-- adding the repositories that are left gives the result
abbrev pub invariant-loop-name : goal.invariant-loop-name
invariant-loop-name l = with_repositories l.state l.name-iterator ≡ with_repositories l.fn.state (entries l.fn.self)
