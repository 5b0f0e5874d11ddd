use Rattle.std.proofs.Common.{take}
use Rattle.std.specs.HashSet.{contains}
use Rattle.git_name.specs.Same.{same_name}
use Rattle.fork_reach.specs.Seeing.{Sees}
use Rattle.fork_reach.proofs.noting.note_all.Given as goal

-- the names so far were seen to
abbrev pub invariant-loop-name : goal.invariant-loop-name
invariant-loop-name g l =
    Sees (g.N.Names.names l.fn.there) (g.N.Names.ends l.fn.there) (take l.name-index l.names) (contains same_name l.fn.seen) l.fn.waiting.items (contains same_name l.seen) l.waiting.items
