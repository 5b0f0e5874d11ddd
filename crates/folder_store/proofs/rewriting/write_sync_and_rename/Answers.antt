use Rattle.std.proofs.Common.{◌∙◌}
use Rattle.folder_store.proofs.CallLemmas.{moved_unfailed_too, wrote_unfailed_too}
use Rattle.folder_store.proofs.SyncedLemmas.{syncs_unfailed}
use Rattle.folder_store.proofs.rewriting.write_sync_and_rename.Goals as goal

pub returns-in_err-write-clause-unfailed : goal.returns-in_err-write-clause-unfailed
returns-in_err-write-clause-unfailed g c honest still unfailed =
    wrote_unfailed_too (g.D.Device.past c.args.device.now) (g.D.Device.past c.write.new.self) c.args.part.now c.args.bytes.now c.write.result (c.write.ensures.effect honest) unfailed

pub returns-in_err-sync_part-clause-unfailed : goal.returns-in_err-sync_part-clause-unfailed
returns-in_err-sync_part-clause-unfailed g c honest still unfailed =
    let syncs = c.sync_part.ensures.only (c.write.ensures.honest ∙ honest) still in
    syncs_unfailed (g.D.Device.past c.write.new.self) (g.D.Device.past c.sync_part.new.device) syncs.0 syncs.1
    (wrote_unfailed_too (g.D.Device.past c.args.device.now) (g.D.Device.past c.write.new.self) c.args.part.now c.args.bytes.now c.write.result (c.write.ensures.effect honest) unfailed)

pub returns-in_err-rename-clause-unfailed : goal.returns-in_err-rename-clause-unfailed
returns-in_err-rename-clause-unfailed g c honest still unfailed =
    let syncs = c.sync_part.ensures.only (c.write.ensures.honest ∙ honest) still in
    moved_unfailed_too (g.D.Device.past c.sync_part.new.device) (g.D.Device.past c.rename.new.self) c.args.part.now c.args.path.now c.rename.result (c.rename.ensures.effect (c.sync_part.ensures.honest ∙ c.write.ensures.honest ∙ honest))
    (syncs_unfailed (g.D.Device.past c.write.new.self) (g.D.Device.past c.sync_part.new.device) syncs.0 syncs.1
    (wrote_unfailed_too (g.D.Device.past c.args.device.now) (g.D.Device.past c.write.new.self) c.args.part.now c.args.bytes.now c.write.result (c.write.ensures.effect honest) unfailed))

pub returns-then-not-branch-clause-unfailed : goal.returns-then-not-branch-clause-unfailed
returns-then-not-branch-clause-unfailed g c honest still unfailed =
    let syncs = c.sync_part.ensures.only (c.write.ensures.honest ∙ honest) still in
    moved_unfailed_too (g.D.Device.past c.sync_part.new.device) (g.D.Device.past c.rename.new.self) c.args.part.now c.args.path.now c.rename.result (c.rename.ensures.effect (c.sync_part.ensures.honest ∙ c.write.ensures.honest ∙ honest))
    (syncs_unfailed (g.D.Device.past c.write.new.self) (g.D.Device.past c.sync_part.new.device) syncs.0 syncs.1
    (wrote_unfailed_too (g.D.Device.past c.args.device.now) (g.D.Device.past c.write.new.self) c.args.part.now c.args.bytes.now c.write.result (c.write.ensures.effect honest) unfailed))

pub returns-clause-unfailed : goal.returns-clause-unfailed
returns-clause-unfailed g c honest still unfailed =
    let syncs = c.sync_part.ensures.only (c.write.ensures.honest ∙ honest) still in
    moved_unfailed_too (g.D.Device.past c.sync_part.new.device) (g.D.Device.past c.rename.new.self) c.args.part.now c.args.path.now c.rename.result (c.rename.ensures.effect (c.sync_part.ensures.honest ∙ c.write.ensures.honest ∙ honest))
    (syncs_unfailed (g.D.Device.past c.write.new.self) (g.D.Device.past c.sync_part.new.device) syncs.0 syncs.1
    (wrote_unfailed_too (g.D.Device.past c.args.device.now) (g.D.Device.past c.write.new.self) c.args.part.now c.args.bytes.now c.write.result (c.write.ensures.effect honest) unfailed))
