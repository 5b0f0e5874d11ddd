use Rattle.std.proofs.Common.{◌≡◌, IsTrue, None, drop}
use Rattle.std.specs.List.{find}
use Rattle.std.specs.Option.{option_or}
use Rattle.fork_reach.specs.Faults.{IsAsked}
use Rattle.fork_push.specs.Push.{is_missing, is_wrong, links_under}
use Rattle.fork_push.proofs.sent.judge_sent.Given as goal

-- the source was asked without a fault, no link so far is missing, and if no wrong link is noted the first wrong one left counts
abbrev pub invariant-loop-name : goal.invariant-loop-name
invariant-loop-name g l =
    let old = g.S.Source.state l.fn.source in
    record {
      asked : IsAsked old (g.S.Source.state l.source) None;
      missing : IsTrue old.honest → find (is_missing old.objects) (links_under old.objects (drop l.name-index l.names)) ≡ find (is_missing old.objects) (links_under old.objects l.names);
      wrong : IsTrue old.honest → option_or l.wrong (find (is_wrong old.objects) (links_under old.objects (drop l.name-index l.names))) ≡ find (is_wrong old.objects) (links_under old.objects l.names);
    }
