use Rattle.devices.proofs.SourceLemmas.{consumed}
use Rattle.devices.proofs.file_reader.FileReaderRead.read.Goals as goal

pub returns-clause-bytes : goal.returns-clause-bytes
returns-clause-bytes g c =
    consumed (g.D.Device.honest c.args.self.now.device.now) (g.D.Device.past c.args.self.now.device.now) c.args.self.now.path.now c.in_ok-bytes.bytes.items c.as_slice.result.now c.copied-n.new.buf c.args.self.now.at c.in-Some.at c.copied-n.result _
    c.in_ok-bytes.ensures c.as_slice.ensures.value c.copied-n.ensures.len c.copied-n.ensures.all c.copied-n.ensures.bytes c.in-Some.ensures.1
