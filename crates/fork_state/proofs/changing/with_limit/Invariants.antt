use Rattle.std.proofs.Common.{◌≡◌, ◌++◌}
use Rattle.fork_state.specs.Changed.{states_limited}
use Rattle.fork_state.proofs.changing.with_limit.Given as goal

-- with those that are left it is what it shall be
abbrev pub invariant-loop-tenant : goal.invariant-loop-tenant
invariant-loop-tenant l = l.changed ++ states_limited l.fn.name l.fn.limit l.tenant-iterator.rest.items ≡ states_limited l.fn.name l.fn.limit l.fn.states
