use Rattle.fork_program.proofs.LossLemmas.{loss_repeated}
use Rattle.fork_program.proofs.SyncedLemmas.{synced_repeated}
use Rattle.fork_program.proofs.laws.a_start_repeats_what_was_synced.Goals as goal

pub returns-clause-left : goal.returns-clause-left
returns-clause-left c = synced_repeated c.contents_are_what_was_written.ensures.synced c.a_front_of_frames_is_read.ensures

pub returns-clause-loss : goal.returns-clause-loss
returns-clause-loss c = loss_repeated (synced_repeated c.contents_are_what_was_written.ensures.synced c.a_front_of_frames_is_read.ensures)
