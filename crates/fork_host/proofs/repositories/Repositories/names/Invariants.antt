use Rattle.std.proofs.Common.{◌≡◌, ◌++◌, map}
use Rattle.std.specs.Prelude.{codes}
use Rattle.std.specs.List.{flat_map}
use Rattle.std.specs.FinMap.{keys}
use Rattle.fork_host.proofs.repositories.Repositories.names.Given as goal

-- the names so far, and then those of the repositories that are left, are all
abbrev pub invariant-loop-name : goal.invariant-loop-name
invariant-loop-name l = l.text.items ++ flat_map (λ name. name ++ codes "\n") (map (λ e. e.0) l.name-iterator) ≡ flat_map (λ name. name ++ codes "\n") (keys l.fn.self)
