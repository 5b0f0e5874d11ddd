use Rattle.std.proofs.Common.{◌≡◌, drop, map}
use Rattle.std.specs.List.{find, flat_map}
use Rattle.fork_host.specs.Restored.{is_bad_target, references_in}
use Rattle.fork_host.proofs.targets.bad_in_repositories.Given as goal

-- the first of those that are left is the first of all
abbrev pub invariant-loop-repository : goal.invariant-loop-repository
invariant-loop-repository g l =
    find (is_bad_target (g.K.Known.kinds l.fn.known)) (flat_map references_in (map (λ row. row.1) (drop l.repository-index l.repositories)))
    ≡ find (is_bad_target (g.K.Known.kinds l.fn.known)) (flat_map references_in (map (λ row. row.1) l.repositories))
