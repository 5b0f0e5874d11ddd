use Rattle.std.proofs.Common.{◌≡◌, length}
use Rattle.std.specs.List.{find, flat_map}
use Rattle.git_tree.specs.Row.{IsRow, entries_in}
use Rattle.git_object.specs.Links.{entry_links}
use Rattle.fork_push.specs.Push.{is_wrong}
use Rattle.fork_push.proofs.linking.are_entries_met.Given as goal

-- if the bytes are valid entries, so are those that are left, and any wrong link is among these
abbrev pub invariant-loop-entry : goal.invariant-loop-entry
invariant-loop-entry g l =
    let both = (g.S.Source.state l.fn.source).objects in
    record {
      row : IsRow l.fn.bytes → IsRow l.rest;
      wrong : IsRow l.fn.bytes → find (is_wrong both) (flat_map entry_links (entries_in l.rest)) ≡ find (is_wrong both) (flat_map entry_links (entries_in l.fn.bytes));
    }

abbrev pub decreases-loop-entry : goal.decreases-loop-entry
decreases-loop-entry g l = length l.rest
