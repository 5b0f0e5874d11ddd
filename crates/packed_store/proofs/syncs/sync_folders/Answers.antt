use Rattle.std.proofs.Common.{◌∙◌}
use Rattle.packed_store.proofs.SureLemmas.{narrows_on}
use Rattle.packed_store.proofs.syncs.sync_folders.Goals as goal

pub returns-clause-narrows : goal.returns-clause-narrows
returns-clause-narrows g c honest =
    narrows_on (g.D.Device.past c.args.device.now) (g.D.Device.past c.sync_folder.new.device) (g.D.Device.past c.sync_folder-2.new.device)
    (c.sync_folder.ensures.narrows honest) (c.sync_folder-2.ensures.narrows (c.sync_folder.ensures.honest ∙ honest))
