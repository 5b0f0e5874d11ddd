use Rattle.packed_store.proofs.GrowthLemmas.{file_synced}
use Rattle.packed_store.proofs.calls.sync_bytes.Goals as goal

pub returns-clause-files : goal.returns-clause-files
returns-clause-files g c honest = file_synced c.args.path.now (g.D.Device.past c.args.device.now) (g.D.Device.past c.sync_file.new.self) c.sync_file.result (c.sync_file.ensures.effect honest)
