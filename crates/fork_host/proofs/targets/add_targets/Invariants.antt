use Rattle.std.proofs.Common.{◌≡◌, ◌++◌, map as map_list}
use Rattle.std.specs.FinMap.{values}
use Rattle.fork_host.proofs.targets.add_targets.Given as goal

-- the targets so far, and then those of the references that are left, are all
abbrev pub invariant-loop-target : goal.invariant-loop-target
invariant-loop-target l = l.names.items ++ map_list (λ e. e.1) l.target-iterator ≡ l.fn.names.items ++ values l.fn.references
