use Rattle.std.proofs.Common.{◌∙◌, sym}
use Rattle.folder_store.proofs.CallLemmas.{forgets, gone_ok}
use Rattle.folder_store.proofs.swept.remove_next.Goals as goal

pub returns-then-is_err-clause-lasts : goal.returns-then-is_err-clause-lasts
returns-then-is_err-clause-lasts g c honest =
    forgets c.args.name c.remove_swept-removed.ensures.name (g.D.Device.past c.args.device.now) (g.D.Device.past c.remove_swept-removed.new.device) c.remove_swept-removed.result (c.remove_swept-removed.ensures.effect honest)

pub returns-clause-lasts : goal.returns-clause-lasts
returns-clause-lasts g c honest =
    forgets c.args.name c.remove_swept-removed.ensures.name (g.D.Device.past c.args.device.now) (g.D.Device.past c.remove_swept-removed.new.device) c.remove_swept-removed.result (c.remove_swept-removed.ensures.effect honest)

pub returns-clause-gone : goal.returns-clause-gone
returns-clause-gone g c honest is_empty =
    gone_ok _ (g.D.Device.past c.args.device.now) (g.D.Device.past c.remove_swept-removed.new.device) c.remove_swept-removed.result (sym c.is_err.ensures.value ∙ c.if-is_err.false) (c.remove_swept-removed.ensures.effect honest)
