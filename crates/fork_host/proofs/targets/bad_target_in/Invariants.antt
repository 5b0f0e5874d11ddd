use Rattle.std.proofs.Common.{◌≡◌}
use Rattle.std.specs.List.{find}
use Rattle.std.specs.FinMap.{entries}
use Rattle.fork_host.specs.Restored.{is_bad_target}
use Rattle.fork_host.proofs.targets.bad_target_in.Given as goal

-- the first of those that are left is the first of all
abbrev pub invariant-loop-reference : goal.invariant-loop-reference
invariant-loop-reference g l = find (is_bad_target (g.K.Known.kinds l.fn.known)) l.reference-iterator ≡ find (is_bad_target (g.K.Known.kinds l.fn.known)) (entries l.fn.references)
