use Rattle.std.proofs.Common.{◌≡◌, ◌++◌, map}
use Rattle.git_object.specs.ObjectIn.{links_in}
use Rattle.git_object.specs.Rest.{links_left}
use Rattle.fork_reach.proofs.along.link_names.Given as goal

-- the names so far, and then those of the links that are left
abbrev pub invariant-loop-link : goal.invariant-loop-link
invariant-loop-link l = l.names.items ++ map (λ link. link.name) (links_left l.link-iterator) ≡ map (λ link. link.name) (links_in l.fn.kind l.fn.bytes)
