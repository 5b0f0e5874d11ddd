use Rattle.std.proofs.Common.{◌∙◌}
use Rattle.packed_store.proofs.SureLemmas.{segment_sure}
use Rattle.packed_store.proofs.syncs.sync_segment.Goals as goal

pub returns-clause-sure : goal.returns-clause-sure
returns-clause-sure g c honest =
    segment_sure c.args.segment c.as_str.result.now (g.D.Device.past c.args.device.now) (g.D.Device.past c.sync_bytes-synced.new.device) c.sync_bytes-synced.result c.was_synced.result
    (c.as_str.ensures.value ∙ c.in_ok-path.ensures) c.was_synced.ensures.passed (c.sync_bytes-synced.ensures.effect honest)
