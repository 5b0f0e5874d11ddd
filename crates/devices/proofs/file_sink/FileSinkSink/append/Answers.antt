use Rattle.devices.proofs.SinkLemmas.{appended}
use Rattle.devices.proofs.file_sink.FileSinkSink.append.Goals as goal

pub returns-clause-bytes : goal.returns-clause-bytes
returns-clause-bytes g c =
    appended (g.D.Device.honest c.args.self.now.device.now) (g.D.Device.honest c.append-answer.new.self) (g.D.Device.past c.args.self.now.device.now) (g.D.Device.past c.append-answer.new.self) c.args.self.now.path.now c.args.bytes.now
    c.append-answer.result c.passed.result c.append-answer.ensures.honest c.append-answer.ensures.effect c.passed.ensures
