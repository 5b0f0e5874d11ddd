use Rattle.std.proofs.Common.{refl, ◌∙◌}
use Rattle.packed_store.proofs.LastingLemmas.{folder_sure, missing_sure}
use Rattle.packed_store.proofs.calls.sync_names.Goals as goal

pub returns-in-Err-Missing-clause-sure : goal.returns-in-Err-Missing-clause-sure
returns-in-Err-Missing-clause-sure g c honest =
    missing_sure c.args.folder.now (g.D.Device.past c.sync_folder.new.self) (g.D.Device.past c.sync_folder.new.self) c.require_empty.result
    refl (c.require_empty.ensures (c.sync_folder.ensures.honest ∙ honest))

pub returns-in_default-2-clause-sure : goal.returns-in_default-2-clause-sure
returns-in_default-2-clause-sure g c honest =
    folder_sure c.args.folder.now (g.D.Device.past c.args.device.now) (g.D.Device.past c.sync_folder.new.self) c.sync_folder.result (c.sync_folder.ensures.effect honest)
