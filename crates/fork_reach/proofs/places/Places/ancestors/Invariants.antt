use Rattle.std.proofs.Common.{◌+◌, length, map, true}
use Rattle.fork_reach.specs.History.{noted_parents, notes_under}
use Rattle.fork_reach.specs.Marks.{Fits, is_marked, listed_name}
use Rattle.fork_reach.specs.Seeing.{unseen}
use Rattle.fork_reach.proofs.WalkLemmas.{Walks}
use Rattle.std.proofs.Common.{[], ◌∷◌}
use Rattle.fork_reach.proofs.places.Places.ancestors.Given as goal

-- the flags so far are right
abbrev pub invariant-waiting : goal.invariant-waiting
invariant-waiting l =
    let names = l.self.names.now.keys in
    let notes = notes_under names l.self.notes.now in
    record {
      walks : Walks (noted_parents notes) notes (l.fn.commit ∷ []) true (is_marked names l.marks.items) (map (listed_name names) l.waiting.items);
      fits : Fits names l.self.notes.now l.marks.items l.waiting.items;
    }

-- the commits whose flags are not set, and the places that wait
abbrev pub decreases-waiting : goal.decreases-waiting
decreases-waiting l = unseen (notes_under l.self.names.now.keys l.self.notes.now) (is_marked l.self.names.now.keys l.marks.items) + length l.waiting.items
