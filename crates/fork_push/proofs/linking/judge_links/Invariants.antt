use Rattle.std.proofs.Common.{◌≡◌}
use Rattle.std.specs.List.{find}
use Rattle.std.specs.Option.{option_or}
use Rattle.git_object.specs.ObjectIn.{links_in}
use Rattle.git_object.specs.Rest.{links_left}
use Rattle.fork_push.specs.Push.{is_missing, is_wrong}
use Rattle.fork_push.proofs.linking.judge_links.Given as goal

-- no link so far is missing, and if no wrong link is noted the first wrong one left counts
abbrev pub invariant-loop-link : goal.invariant-loop-link
invariant-loop-link g l =
    let both = (g.S.Source.state l.fn.source).objects in
    let all = links_in l.fn.kind l.fn.bytes in
    (find (is_missing both) (links_left l.link-iterator) ≡ find (is_missing both) all)
    × (option_or l.wrong (find (is_wrong both) (links_left l.link-iterator)) ≡ option_or l.fn.wrong (find (is_wrong both) all))
