use Rattle.std.proofs.Common.{◌≡◌, take}
use Rattle.std.specs.FinMap.{entries}
use Rattle.fork_host.proofs.repositories.Repositories.gather.Given as goal

-- the repositories so far are gathered
abbrev pub invariant-loop-name : goal.invariant-loop-name
invariant-loop-name l = entries l.repositories ≡ take l.name-index l.list
