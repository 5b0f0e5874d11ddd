use Rattle.fork_frame.proofs.FrontLemmas.{front_is_read}
use Rattle.fork_frame.proofs.laws.a_front_of_frames_is_read.Goals as goal

pub returns : goal.returns
returns c = front_is_read
