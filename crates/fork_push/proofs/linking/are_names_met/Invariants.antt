use Rattle.std.proofs.Common.{◌≡◌, map}
use Rattle.std.specs.List.{find}
use Rattle.git_commit.specs.Commit.{CommitValue, IsCommit}
use Rattle.git_commit.specs.Left.{parents_left}
use Rattle.git_object.specs.Links.{commit_link}
use Rattle.fork_push.specs.Push.{is_wrong}
use Rattle.fork_push.proofs.linking.are_names_met.Given as goal

-- if the bytes are a commit, its wrong parents are among those that are left
abbrev pub invariant-loop-parent : goal.invariant-loop-parent
invariant-loop-parent g l =
    let both = (g.S.Source.state l.fn.source).objects in
    (value : CommitValue) → IsCommit value l.fn.bytes → find (is_wrong both) (map commit_link (parents_left l.parent-iterator)) ≡ find (is_wrong both) (map commit_link value.parents)
