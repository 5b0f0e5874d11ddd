use Rattle.fork_frame.proofs.ReplyLemmas.{no_reply_is_last, one_reply}
use Rattle.fork_frame.proofs.laws.same_bytes_are_same_replies.Goals as goal

pub returns-clause-reply : goal.returns-clause-reply
returns-clause-reply c = one_reply

pub returns-clause-last : goal.returns-clause-last
returns-clause-last c = no_reply_is_last
