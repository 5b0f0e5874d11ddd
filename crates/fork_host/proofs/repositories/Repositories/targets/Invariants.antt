use Rattle.std.proofs.Common.{◌≡◌, ◌++◌}
use Rattle.std.specs.List.{flat_map}
use Rattle.std.specs.FinMap.{values}
use Rattle.git_reftx.specs.Repository.{Repository}
use Rattle.fork_model.specs.Answer.{targets_of}
use Rattle.fork_host.proofs.repositories.Repositories.targets.Given as goal

-- the targets so far, and then those of the repositories that are left, are all
abbrev pub invariant-loop-repository : goal.invariant-loop-repository
invariant-loop-repository l = l.names.items ++ flat_map (λ (r : Repository). values r.references) l.repository-iterator ≡ targets_of l.fn.self
