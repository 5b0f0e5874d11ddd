use Rattle.std.proofs.Common.{◌≡◌}
use Rattle.fork_host.specs.Keeping.{with_repositories}
use Rattle.fork_state.proofs.limiting.keep_repositories.Given as goal

-- with those that are left it is what it shall be
abbrev pub invariant-loop-name : goal.invariant-loop-name
invariant-loop-name l = with_repositories l.tenant l.name-iterator.rest.items ≡ with_repositories l.fn.tenant l.fn.repositories.items
