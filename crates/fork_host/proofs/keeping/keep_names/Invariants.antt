use Rattle.std.proofs.Common.{◌≡◌}
use Rattle.fork_host.specs.Keeping.{with_names}
use Rattle.fork_host.proofs.keeping.keep_names.Given as goal

-- adding the names that are left gives the result
abbrev pub invariant-loop-name : goal.invariant-loop-name
invariant-loop-name l = with_names l.tenant l.name-iterator.rest.items ≡ with_names l.fn.tenant l.fn.names.items
