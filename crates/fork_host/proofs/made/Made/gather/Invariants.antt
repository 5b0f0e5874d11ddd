use Rattle.std.proofs.Common.{◌≡◌, map, take}
use Rattle.std.specs.FinMap.{entries}
use Rattle.fork_host.specs.Made.{entry_of}
use Rattle.fork_host.proofs.made.Made.gather.Given as goal

-- the offers so far are gathered
abbrev pub invariant-loop-offer : goal.invariant-loop-offer
invariant-loop-offer l = entries l.made ≡ map entry_of (take l.offer-index l.list)
