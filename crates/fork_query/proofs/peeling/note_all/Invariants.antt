use Rattle.std.proofs.Common.{◌≡◌, ℕ, List, true}
use Rattle.std.specs.BTreeMap.{is_at}
use Rattle.std.specs.BTreeSet.{contains}
use Rattle.std.specs.List.{list_any}
use Rattle.git_name.specs.Name.{name_cmp}
use Rattle.fork_reach.specs.Source.{Objects}
use Rattle.fork_query.specs.Followed.{AreEnds}
use Rattle.fork_query.specs.Peel.{peeled}
use Rattle.fork_query.proofs.peeling.note_all.Given as goal

-- what is known is right where all tags stand for the end; those that are left are tags of the trail
abbrev pub invariant-loop-tag : goal.invariant-loop-tag
invariant-loop-tag l = record {
  known : (objects : Objects) → AreEnds objects l.fn.followed → ((tag : List ℕ) → contains name_cmp l.fn.tags tag ≡ true → l.fn.end ≡ peeled objects tag) → AreEnds objects l.followed;
  left : (tag : List ℕ) → list_any (is_at (name_cmp tag)) l.tag-iterator ≡ true → contains name_cmp l.fn.tags tag ≡ true;
}
