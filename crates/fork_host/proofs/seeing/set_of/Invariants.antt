use Rattle.std.proofs.Common.{◌≡◌, take}
use Rattle.fork_host.proofs.seeing.set_of.Given as goal

-- the names so far are the set's
abbrev pub invariant-loop-name : goal.invariant-loop-name
invariant-loop-name l = l.set.keys ≡ take l.name-index l.names
