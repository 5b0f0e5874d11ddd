use Rattle.std.proofs.Common.{◌≡◌, ◌&&◌, ◌||◌, not, true, ℕ, List, length, take}
use Rattle.std.specs.HashSet.{contains}
use Rattle.std.specs.Str.{bytes_eq}
use Rattle.git_name.specs.Same.{same_name}
use Rattle.fork_reach.specs.Marks.{is_marked}
use Rattle.fork_reach.specs.Reach.{is_among}
use Rattle.fork_reach.proofs.places.Places.put_parents.Given as goal

-- the parents so far
abbrev pub invariant-loop-parent : goal.invariant-loop-parent
invariant-loop-parent l =
    let names = l.self.names.now.keys in
    record {
      marked : (name : List ℕ) → contains same_name l.self.names.now name ≡ true → is_marked names l.marks name ≡ (is_marked names l.fn.marks name || (not (bytes_eq l.commit name) && is_among (take l.parent-index l.parent-items) name));
      len : length l.marks ≡ length names;
    }
