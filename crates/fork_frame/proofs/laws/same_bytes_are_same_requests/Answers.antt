use Rattle.fork_frame.proofs.LawLemmas.{one_frame, one_stream}
use Rattle.fork_frame.proofs.laws.same_bytes_are_same_requests.Goals as goal

pub returns-clause-frame : goal.returns-clause-frame
returns-clause-frame c = one_frame

pub returns-clause-stream : goal.returns-clause-stream
returns-clause-stream c = one_stream
