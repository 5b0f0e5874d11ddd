use Rattle.std.proofs.Common.{◌≡◌}
use Rattle.std.specs.List.{flat_map}
use Rattle.git_object.specs.Links.{entry_links}
use Rattle.git_object.proofs.walk.next_of_tree.Given as goal

-- what was passed over has no links
abbrev pub invariant-loop-entry : goal.invariant-loop-entry
invariant-loop-entry l =
    (goal.iterator-loop-entry).can_next l.entries × (goal.iterator-loop-entry).is_finite l.entries × (flat_map entry_links l.fn.entries ≡ flat_map entry_links l.entries)
