use Rattle.std.proofs.Common.{◌≡◌, ◌++◌}
use Rattle.git_object.specs.Held.{object_of}
use Rattle.git_object.specs.Links.{links_of}
use Rattle.git_object.specs.Rest.{links_left}
use Rattle.fork_sound.proofs.reading.listed.Given as goal

-- the links so far, and then those that are left
abbrev pub invariant-loop-link : goal.invariant-loop-link
invariant-loop-link l = l.listed.items ++ links_left l.link-iterator ≡ links_of (object_of l.fn.object)
