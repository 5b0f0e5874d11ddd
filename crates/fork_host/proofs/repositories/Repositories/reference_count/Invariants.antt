use Rattle.std.proofs.Common.{◌≡◌, ◌≤◌, ◌+◌, ◌*◌, length}
use Rattle.std.specs.Prelude.{sum_by}
use Rattle.std.specs.FinMap.{len}
use Rattle.git_reftx.specs.Repository.{Repository}
use Rattle.fork_model.specs.Figures.{references_in}
use Rattle.fork_host.proofs.repositories.Repositories.reference_count.Given as goal

-- the count so far, and then the references of the repositories that are left, are all; and each repository has few
abbrev pub invariant-loop-repository : goal.invariant-loop-repository
invariant-loop-repository l = record {
  counted : l.count + sum_by (λ (r : Repository). len r.references) l.repository-iterator ≡ references_in l.fn.self;
  few : l.count + 4096 * length l.repository-iterator ≤ 4096 * len l.fn.self;
}
