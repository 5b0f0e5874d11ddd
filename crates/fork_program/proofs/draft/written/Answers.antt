use Rattle.std.proofs.Common.{◌∙◌}
use Rattle.fork_program.proofs.SavingLemmas.{dropped_at, tried_at}
use Rattle.fork_program.proofs.draft.written.Goals as goal

pub returns-in-Ok-clause-tried : goal.returns-in-Ok-clause-tried
returns-in-Ok-clause-tried g c honest = tried_at _ (g.D.Device.past c.args.device.now) (g.D.Device.past c.write_file.new.device) c.state_part.ensures (c.write_file.ensures.part honest)

pub returns-in-Err-clause-tried : goal.returns-in-Err-clause-tried
returns-in-Err-clause-tried g c honest =
    dropped_at _ (g.D.Device.past c.args.device.now) (g.D.Device.past c.write_file.new.device) (g.D.Device.past c.drop_state.new.device) c.state_part.ensures (c.write_file.ensures.part honest)
    (c.drop_state.ensures.dropped (c.write_file.ensures.honest ∙ honest))
