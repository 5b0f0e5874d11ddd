use Rattle.std.proofs.Common.{subst, ◌∙◌}
use Rattle.devices.specs.Device.{Past, files_of}
use Rattle.packed_store.specs.Place.{Grows}
use Rattle.packed_store.proofs.log.Log.add.Goals as goal

pub returns-clause-grows : goal.returns-clause-grows
returns-clause-grows g c honest =
    subst (λ (past : Past). Grows (files_of past) (files_of (g.D.Device.past c.append.new.self.device))) (c.make_ready.ensures.past honest)
    (c.append.ensures.grows (c.make_ready.ensures.honest ∙ honest))
