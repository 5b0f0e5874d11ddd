use Rattle.fork_program.proofs.SavingLemmas.{settles_dropped, settles_run}
use Rattle.fork_program.proofs.settling.place.Goals as goal

pub returns-then-stands-clause-settled : goal.returns-then-stands-clause-settled
returns-then-stands-clause-settled g c honest = settles_dropped (g.D.Device.past c.args.device.now) (g.D.Device.past c.drop_state.new.device) (c.drop_state.ensures.dropped honest)

pub returns-in-Ok-clause-settled : goal.returns-in-Ok-clause-settled
returns-in-Ok-clause-settled g c honest = settles_run (g.D.Device.past c.args.device.now) (g.D.Device.past c.place_state.new.device) c.place_state.result (c.place_state.ensures.effects honest)

pub returns-in-Err-clause-settled : goal.returns-in-Err-clause-settled
returns-in-Err-clause-settled g c honest = settles_run (g.D.Device.past c.args.device.now) (g.D.Device.past c.place_state.new.device) c.place_state.result (c.place_state.ensures.effects honest)
