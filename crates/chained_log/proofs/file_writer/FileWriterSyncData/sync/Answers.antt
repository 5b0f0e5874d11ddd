use Rattle.std.proofs.Common.{string_bytes}
use Rattle.chained_log.proofs.SyncedLemmas.{synced_now}
use Rattle.chained_log.proofs.file_writer.FileWriterSyncData.sync.Goals as goal

pub returns-clause-ok : goal.returns-clause-ok
returns-clause-ok g c =
    synced_now (g.D.Device.honest c.args.self.now.device) (g.D.Device.honest c.sync_file-answer.new.self) (g.D.Device.past c.args.self.now.device) (g.D.Device.past c.sync_file-answer.new.self) (string_bytes c.args.self.now.path)
    c.sync_file-answer.result c.passed.result c.sync_file-answer.ensures.honest (rw c.as_str.ensures.value at c.sync_file-answer.ensures.effect) c.passed.ensures
