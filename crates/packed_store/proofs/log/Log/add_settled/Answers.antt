use Rattle.std.proofs.Common.{◌∙◌}
use Rattle.devices.specs.Device.{files_of}
use Rattle.packed_store.specs.Entry.{Undone}
use Rattle.packed_store.proofs.AppendLemmas.{appended_stays}
use Rattle.packed_store.proofs.GrowthLemmas.{grows_on}
use Rattle.packed_store.proofs.log.Log.add_settled.Goals as goal

pub returns-in_err-add-clause-grows : goal.returns-in_err-add-clause-grows
returns-in_err-add-clause-grows g c honest =
    grows_on (files_of (g.D.Device.past c.args.self.now.device)) (files_of (g.D.Device.past c.undo.new.self.device)) (files_of (g.D.Device.past c.add.new.self.device))
    (c.undo.ensures.grows honest) (c.add.ensures.grows (c.undo.ensures.honest ∙ honest))

pub returns-clause-grows : goal.returns-clause-grows
returns-clause-grows g c honest =
    grows_on (files_of (g.D.Device.past c.args.self.now.device)) (files_of (g.D.Device.past c.undo.new.self.device)) (files_of (g.D.Device.past c.add.new.self.device))
    (c.undo.ensures.grows honest) (c.add.ensures.grows (c.undo.ensures.honest ∙ honest))

pub returns-clause-undone : goal.returns-clause-undone
returns-clause-undone g c honest owed =
    appended_stays (files_of (g.D.Device.past c.undo.new.self.device)) (files_of (g.D.Device.past c.add.new.self.device)) Undone (c.in_ok-undo.ensures.undone honest owed) (c.add.ensures.grows (c.undo.ensures.honest ∙ honest))
