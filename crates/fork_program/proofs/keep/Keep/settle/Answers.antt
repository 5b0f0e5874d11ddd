use Rattle.fork_program.proofs.SameHostLemmas.{same_saved}
use Rattle.fork_program.proofs.keep.Keep.settle.Goals as goal

pub returns-then-not-has_removed-clause-saved : goal.returns-then-not-has_removed-clause-saved
returns-then-not-has_removed-clause-saved g c = same_saved c.args.host.now c.sync_ahead.new.host c.sync_ahead.ensures.host

pub returns-then-bytes-eq0-clause-saved : goal.returns-then-bytes-eq0-clause-saved
returns-then-bytes-eq0-clause-saved g c = same_saved c.args.host.now c.forget_removed-forgotten.new.self c.forget_removed-forgotten.ensures.same
