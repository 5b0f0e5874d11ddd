use Rattle.std.proofs.Common.{◌≡◌, ◌+◌, ◌≤◌, IsTrue, None, drop, length, map, take}
use Rattle.std.specs.HashSet.{contains}
use Rattle.git_name.specs.Same.{is_listed, same_name}
use Rattle.fork_reach.specs.Faults.{IsAsked}
use Rattle.fork_reach.specs.Hidden.{without}
use Rattle.fork_reach.specs.History.{note_at}
use Rattle.fork_reach.specs.Objects.{measures_of}
use Rattle.fork_reach.specs.Reach.{parent_names}
use Rattle.fork_reach.specs.Seeing.{unseen}
use Rattle.fork_reach.proofs.WalkLemmas.{Walks}
use Rattle.fork_reach.proofs.recording.read_history.Given as goal

-- the source was asked without a fault, what is queued so far is right, and of the front of the queue all is noted
abbrev pub invariant-queued : goal.invariant-queued
invariant-queued g l =
    let old = g.S.Source.state l.fn.source in
    let queue = l.names.keys in
    let at = length l.notes.items in
    record {
      asked : IsAsked old (g.S.Source.state l.source) None;
      walks : Walks (parent_names old.objects) (without (measures_of old.objects) (contains same_name l.hidden)) l.commits old.honest (is_listed queue) (drop at queue);
      within : at ≤ length queue;
      noted : IsTrue old.honest → l.notes.items ≡ map (note_at old.objects) (take at queue);
    }

-- the objects that are not queued, and the names that wait
abbrev pub decreases-queued : goal.decreases-queued
decreases-queued g l = unseen (without (measures_of (g.S.Source.state l.fn.source).objects) (contains same_name l.hidden)) (is_listed l.names.keys) + length (drop (length l.notes.items) l.names.keys)
