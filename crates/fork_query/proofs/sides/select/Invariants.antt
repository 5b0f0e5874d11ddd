use Rattle.std.proofs.Common.{◌≡◌, None, IsTrue, length}
use Rattle.git_name.specs.Text.{words_of}
use Rattle.fork_reach.specs.Faults.{IsAsked}
use Rattle.fork_query.specs.Followed.{AreEnds}
use Rattle.fork_query.specs.Items.{named_item}
use Rattle.fork_query.specs.Sides.{selected, selection_of}
use Rattle.fork_query.proofs.SideLemmas.{behind}
use Rattle.fork_query.proofs.sides.select.Given as goal

-- the source was asked without a fault; what is known of tags is right; the names so far, and then those of the items that are left
abbrev pub invariant-items : goal.invariant-items
invariant-items g l =
    let old = g.S.Source.state l.fn.source in
    let judge = named_item l.want old.objects l.fn.repository in
    record {
      asked : IsAsked old (g.S.Source.state l.source) None;
      known : IsTrue old.honest → AreEnds old.objects l.followed;
      so_far : IsTrue old.honest → behind (selection_of l.sides) (selected judge (words_of l.rest)) ≡ selected judge (words_of l.fn.items);
    }

-- the items that are left
abbrev pub decreases-items : goal.decreases-items
decreases-items g l = length (words_of l.rest)
