use Rattle.fork_program.proofs.HostingLemmas.{saved_again}
use Rattle.fork_program.proofs.SameHostLemmas.{same_saved}
use Rattle.fork_program.proofs.keep.Keep.save.Goals as goal

pub returns-in-Err-Memory-clause-saved : goal.returns-in-Err-Memory-clause-saved
returns-in-Err-Memory-clause-saved g c = same_saved c.args.host.now c.sync.new.self c.sync.ensures.same

pub returns-in-Err-Device-clause-saved : goal.returns-in-Err-Device-clause-saved
returns-in-Err-Device-clause-saved g c = same_saved c.args.host.now c.sync.new.self c.sync.ensures.same

pub returns-in_default-clause-saved : goal.returns-in_default-clause-saved
returns-in_default-clause-saved g c = saved_again c.args.host.now c.sync.new.self c.next_log.new.host (same_saved c.args.host.now c.sync.new.self c.sync.ensures.same) c.next_log.ensures.saved

pub returns-in_default-journals-clause-saved : goal.returns-in_default-journals-clause-saved
returns-in_default-journals-clause-saved g c = saved_again c.args.host.now c.sync.new.self c.next_log.new.host (same_saved c.args.host.now c.sync.new.self c.sync.ensures.same) c.next_log.ensures.saved

pub returns-in_err-begun-clause-saved : goal.returns-in_err-begun-clause-saved
returns-in_err-begun-clause-saved g c =
    saved_again c.args.host.now c.next_log.new.host c.save.new.host (saved_again c.args.host.now c.sync.new.self c.next_log.new.host (same_saved c.args.host.now c.sync.new.self c.sync.ensures.same) c.next_log.ensures.saved)
    c.save.ensures.saved

pub returns-in-Some-clause-saved : goal.returns-in-Some-clause-saved
returns-in-Some-clause-saved g c =
    saved_again c.args.host.now c.next_log.new.host c.save.new.host (saved_again c.args.host.now c.sync.new.self c.next_log.new.host (same_saved c.args.host.now c.sync.new.self c.sync.ensures.same) c.next_log.ensures.saved)
    c.save.ensures.saved

pub returns-in-None-clause-saved : goal.returns-in-None-clause-saved
returns-in-None-clause-saved g c =
    saved_again c.args.host.now c.next_log.new.host c.save.new.host (saved_again c.args.host.now c.sync.new.self c.next_log.new.host (same_saved c.args.host.now c.sync.new.self c.sync.ensures.same) c.next_log.ensures.saved)
    c.save.ensures.saved
