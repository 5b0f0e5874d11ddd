use Rattle.std.proofs.Common.{take}
use Rattle.fork_reach.specs.Queuing.{Queues}
use Rattle.fork_reach.proofs.queuing.queue_all.Given as goal

-- the names so far were queued
abbrev pub invariant-loop-name : goal.invariant-loop-name
invariant-loop-name g l = Queues (g.N.Names.names l.fn.there) (take l.name-index l.more) l.fn.names.keys l.names.keys
