use Rattle.std.proofs.Common.{string_bytes}
use Rattle.devices.proofs.SinkLemmas.{appended}
use Rattle.chained_log.proofs.file_writer.FileWriterSink.append.Goals as goal

pub returns-clause-bytes : goal.returns-clause-bytes
returns-clause-bytes g c =
    appended (g.D.Device.honest c.args.self.now.device) (g.D.Device.honest c.append-answer.new.self) (g.D.Device.past c.args.self.now.device) (g.D.Device.past c.append-answer.new.self) (string_bytes c.args.self.now.path) c.args.bytes.now
    c.append-answer.result c.passed.result c.append-answer.ensures.honest (rw c.as_str.ensures.value at c.append-answer.ensures.effect) c.passed.ensures
