use Rattle.std.proofs.Common.{map}
use Rattle.std.specs.FinMap.{values}
use Rattle.std.specs.List.{AllByRecursion}
use Rattle.git_name.specs.Name.{IsName}
use Rattle.state_text.proofs.tenant_state.tell.Given as goal

-- all targets are names if those that are left are
abbrev pub invariant-loop-target : goal.invariant-loop-target
invariant-loop-target l = AllByRecursion IsName (map (λ e. e.1) l.target-iterator) → AllByRecursion IsName (values l.repository.references)
