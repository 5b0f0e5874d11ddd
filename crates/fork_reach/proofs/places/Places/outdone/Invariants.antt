use Rattle.std.proofs.Common.{◌≡◌, ◌&&◌, true, ℕ, List, length, take}
use Rattle.std.specs.HashSet.{contains}
use Rattle.std.specs.List.{list_any}
use Rattle.git_name.specs.Same.{same_name}
use Rattle.fork_reach.specs.History.{notes_under}
use Rattle.fork_reach.specs.Marks.{is_marked}
use Rattle.fork_reach.specs.NotedBases.{is_other_parent}
use Rattle.fork_reach.proofs.places.Places.outdone.Given as goal

-- the commits so far
abbrev pub invariant-loop-at : goal.invariant-loop-at
invariant-loop-at l =
    let names = l.self.names.now.keys in
    record {
      marked : (name : List ℕ) → contains same_name l.self.names.now name ≡ true → is_marked names l.outdone.items name ≡ list_any (λ other. is_marked names l.marks other && is_other_parent (notes_under names l.self.notes.now) name other) (take l.at names);
      len : length l.outdone.items ≡ length names;
    }
