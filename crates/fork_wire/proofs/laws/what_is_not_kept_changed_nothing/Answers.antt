use Rattle.fork_wire.proofs.Leaving.{prune_changes, step_leaves}
use Rattle.fork_wire.proofs.laws.what_is_not_kept_changed_nothing.Goals as goal

pub returns-clause-left : goal.returns-clause-left
returns-clause-left c old new frame reply step is = step_leaves old new frame.asker frame.payload reply step is

pub returns-clause-pruned : goal.returns-clause-pruned
returns-clause-pruned c old new frame reply asks step is = prune_changes old new frame.asker frame.payload reply asks step is
