use Rattle.std.proofs.Common.{◌∙◌}
use Rattle.devices.specs.Parts.{IsWritten}
use Rattle.host_folder.specs.State.{part_file}
use Rattle.state_text.specs.Text.{state_text}
use Rattle.state_text.specs.declared.version.Version.TheVariants.{Two}
use Rattle.fork_program.proofs.SavingLemmas.{it_is, written_dropped}
use Rattle.fork_program.proofs.draft.drafted_as.Goals as goal

pub returns-in-Err-clause-tried : goal.returns-in-Err-clause-tried
returns-in-Err-clause-tried g c honest =
    written_dropped (state_text Two c.args.states.now) (g.D.Device.past c.args.device.now) (g.D.Device.past c.written.new.device) (g.D.Device.past c.drop_state.new.device)
    (it_is (λ _. IsWritten part_file (state_text Two c.args.states.now) (g.D.Device.past c.args.device.now) (g.D.Device.past c.written.new.device)) c.in_ok-spelled.field-0 c.in-Some.spelled c.in-Some.is (c.in_ok-spelled.ensures.text honest))
    (c.drop_state.ensures.dropped (c.written.ensures.honest ∙ honest))
