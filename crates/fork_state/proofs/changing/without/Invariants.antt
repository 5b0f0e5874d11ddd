use Rattle.std.proofs.Common.{◌≡◌, ◌++◌}
use Rattle.fork_state.specs.Changed.{states_without}
use Rattle.fork_state.proofs.changing.without.Given as goal

-- with those that are left it is what it shall be
abbrev pub invariant-loop-tenant : goal.invariant-loop-tenant
invariant-loop-tenant l = l.changed ++ states_without l.fn.name l.tenant-iterator.rest.items ≡ states_without l.fn.name l.fn.states
