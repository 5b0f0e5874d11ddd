use Rattle.std.proofs.Common.{◌∙◌, codes, arith}
use Rattle.folder_store.proofs.SyncLemmas.{homes_other, homes_then, unmarked_more}
use Rattle.folder_store.proofs.unsynced.Unsynced.sync_homes.Goals as goal

pub loop-first-init : goal.loop-first-init
loop-first-init g c = (
  c.sync_folder.ensures.kept,
  c.sync_folder.ensures.honest,
  c.sync_folder.ensures.names,
  c.in_ok-sync_folder.ensures.passed,
  (λ honest unfailed. homes_other c.args.self.now.homes c.sync_folder.new.self.homes (codes "objects/") (g.D.Device.past c.args.device.now) (g.D.Device.past c.sync_folder.new.device) c.sync_folder.ensures.homes
      (c.in_ok-sync_folder.ensures.effect honest)),
  (λ first less. absurd (omega (arith, less))),
)

pub returns-in_err-sync_home-clause-folders : goal.returns-in_err-sync_home-clause-folders
returns-in_err-sync_home-clause-folders g c honest unfailed =
    homes_then c.args.self.now.homes c.loop-first.self.homes c.sync_home.new.self.homes (g.D.Device.past c.args.device.now) (g.D.Device.past c.loop-first.device) (g.D.Device.past c.sync_home.new.device)
    (c.loop-first.invariant.4 honest (c.sync_home.ensures.failed unfailed)) (c.sync_home.ensures.folders (c.loop-first.invariant.1 ∙ honest) unfailed)

pub loop-first-preserved : goal.loop-first-preserved
loop-first-preserved g c = (
  c.sync_home.ensures.kept ∙ c.loop-first.invariant.0,
  c.sync_home.ensures.honest ∙ c.loop-first.invariant.1,
  c.sync_home.ensures.names ∙ c.loop-first.invariant.2,
  c.in_ok-sync_home.ensures.passed ∙ c.loop-first.invariant.3,
  (λ honest unfailed. homes_then c.args.self.now.homes c.loop-first.self.homes c.sync_home.new.self.homes (g.D.Device.past c.args.device.now) (g.D.Device.past c.loop-first.device) (g.D.Device.past c.sync_home.new.device)
      (c.loop-first.invariant.4 honest (c.sync_home.ensures.failed unfailed)) (c.sync_home.ensures.folders (c.loop-first.invariant.1 ∙ honest) unfailed)),
  unmarked_more c.loop-first.self.homes c.sync_home.new.self.homes c.loop-first.first c.loop-first.invariant.5 c.in_ok-sync_home.ensures.unmarked c.sync_home.ensures.others,
)
