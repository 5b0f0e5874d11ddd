use Rattle.fork_request.specs.Told.{bytes_of}
use Rattle.fork_frame.specs.Reply.{reply_frame}
use Rattle.fork_wire.proofs.Going.{none_written}
use Rattle.fork_wire.proofs.session.send_kept.Goals as goal

pub returns-then-not-kept-clause-broken : goal.returns-then-not-kept-clause-broken
returns-then-not-kept-clause-broken g c = none_written (g.W.Write.contents c.args.writer.now) (reply_frame (bytes_of c.args.reply))
