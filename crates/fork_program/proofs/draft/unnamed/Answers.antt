use Rattle.std.proofs.Common.{ap, subst, sym}
use Rattle.fork_program.specs.Journaling.{IsBegun}
use Rattle.fork_program.proofs.draft.unnamed.Goals as goal

pub returns-in-Ok-new-clause-begun : goal.returns-in-Ok-new-clause-begun
returns-in-Ok-new-clause-begun g c honest unfailed =
    subst IsBegun (ap (λ w. g.J.Device.past w.device) (sym c.in-Ok-new.ensures.fields.0)) (c.in-Ok.ensures.begun honest unfailed)
