use Rattle.std.proofs.Common.{◌≡◌, map as map_list, take}
use Rattle.git_name.specs.Object.{object_name}
use Rattle.fork_host.proofs.taking.names_of.Given as goal

-- the names so far
abbrev pub invariant-loop-sealed : goal.invariant-loop-sealed
invariant-loop-sealed l = l.names.items ≡ map_list object_name (take l.sealed-index l.sent)
