use Rattle.std.proofs.Common.{◌∙◌}
use Rattle.fork_program.proofs.SavingLemmas.{settles_dropped, settles_then}
use Rattle.fork_program.proofs.saving.settle_all.Goals as goal

pub returns-in_default-clause-settled : goal.returns-in_default-clause-settled
returns-in_default-clause-settled g c honest = settles_dropped (g.D.Device.past c.args.device.now) (g.D.Device.past c.drop_state.new.device) (c.drop_state.ensures.dropped honest)

pub returns-in_default-place-clause-settled : goal.returns-in_default-place-clause-settled
returns-in_default-place-clause-settled g c honest =
    settles_then (g.D.Device.past c.args.device.now) (g.D.Device.past c.place.new.device) (g.D.Device.past c.drop_state-in_default-place.new.device) (c.in_default-place.ensures.failed honest)
    (c.drop_state-in_default-place.ensures.dropped (c.place.ensures.honest ∙ honest))
