use Rattle.std.proofs.Common.{◌≡◌, ◌++◌}
use Rattle.std.specs.List.{flat_map}
use Rattle.std.specs.FinMap.{values}
use Rattle.git_reftx.specs.Repository.{Repository}
use Rattle.fork_host.specs.Made.{targets_kept}
use Rattle.fork_host.proofs.made.Made.add_targets.Given as goal

-- the targets so far, and then those of the offers that are left, are all
abbrev pub invariant-loop-repository : goal.invariant-loop-repository
invariant-loop-repository l = l.names.items ++ flat_map (λ (r : Repository). values r.references) l.repository-iterator ≡ l.fn.names.items ++ targets_kept l.fn.self
