use Rattle.fork_program.proofs.SameHostLemmas.{same_saved}
use Rattle.fork_program.proofs.keep.Keep.settle_after.Goals as goal

pub returns-then-not-is_long-clause-saved : goal.returns-then-not-is_long-clause-saved
returns-then-not-is_long-clause-saved g c = same_saved c.args.host.now c.sync_ahead.new.host c.sync_ahead.ensures.host
