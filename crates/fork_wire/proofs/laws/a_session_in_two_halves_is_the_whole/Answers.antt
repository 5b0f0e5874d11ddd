use Rattle.std.proofs.lemmas.Grind.{flat_map-append}
use Rattle.fork_request.specs.Told.{bytes_of}
use Rattle.fork_frame.specs.Reply.{reply_frame}
use Rattle.fork_wire.proofs.AgainLemmas.{joined, streams_joined}
use Rattle.fork_wire.proofs.laws.a_session_in_two_halves_is_the_whole.Goals as goal

pub returns-clause-stream : goal.returns-clause-stream
returns-clause-stream c input more frames others ended one other = streams_joined input more frames others ended one other

pub returns-clause-answered : goal.returns-clause-answered
returns-clause-answered c = joined

pub returns-clause-told : goal.returns-clause-told
returns-clause-told c replies more = flat_map-append (λ reply. reply_frame (bytes_of reply)) replies more
