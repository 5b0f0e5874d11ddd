use Rattle.std.proofs.Common.{◌≡◌, ℕ, List, take, filter}
use Rattle.std.specs.HashSet.{contains}
use Rattle.std.specs.List.{list_any}
use Rattle.git_name.specs.Same.{same_name}
use Rattle.fork_reach.specs.Marks.{is_marked}
use Rattle.fork_reach.proofs.places.Places.names_of.Given as goal

-- the names so far
abbrev pub invariant-loop-at : goal.invariant-loop-at
invariant-loop-at l =
    let names = l.self.names.now.keys in
    (name : List ℕ) → contains same_name l.names name ≡ list_any (same_name name) (filter (is_marked names l.marks) (take l.at names))
