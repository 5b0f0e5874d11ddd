use Rattle.chained_log.proofs.WritingLemmas.{empty_log}
use Rattle.chained_log.proofs.writer.LogWriter.new.Goals as goal

pub returns-clause-none : goal.returns-clause-none
returns-clause-none g c = λ bytes is size. empty_log c.args.first bytes c.args.start (g.W.Sink.contents c.args.writer) is size
