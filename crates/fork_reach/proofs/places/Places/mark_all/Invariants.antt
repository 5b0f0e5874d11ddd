use Rattle.std.proofs.Common.{take}
use Rattle.fork_reach.specs.Marks.{SeesPlaces}
use Rattle.fork_reach.proofs.places.Places.mark_all.Given as goal

-- the names so far were seen to
abbrev pub invariant-loop-name : goal.invariant-loop-name
invariant-loop-name l = SeesPlaces l.self.names.now.keys l.self.notes.now (take l.name-index l.names) l.fn.marks l.fn.waiting.items l.marks l.waiting.items
