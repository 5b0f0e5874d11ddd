use Rattle.std.proofs.Common.{◌∙◌}
use Rattle.devices.specs.Parts.{IsWritten}
use Rattle.host_folder.specs.State.{part_file}
use Rattle.state_text.specs.Text.{state_text}
use Rattle.state_text.specs.declared.version.Version.TheVariants.{Two}
use Rattle.fork_program.proofs.SavingLemmas.{it_is, none_stands, one_of_two}
use Rattle.fork_program.proofs.saving.save_as_over.Goals as goal

pub returns-in_err-drafted-clause-each : goal.returns-in_err-drafted-clause-each
returns-in_err-drafted-clause-each g c before honest sure =
    one_of_two before (state_text Two c.args.states.now) (g.D.Device.past c.args.device.now) (g.D.Device.past c.drafted_as.new.device) (c.a_tried_part_leaves_the_state.ensures.each before (g.D.Device.past c.args.device.now) (g.D.Device.past c.drafted_as.new.device) sure (c.drafted_as.ensures.tried honest))

pub returns-in_default-clause-each : goal.returns-in_default-clause-each
returns-in_default-clause-each g c before honest sure =
    one_of_two before (state_text Two c.args.states.now) (g.D.Device.past c.args.device.now) (g.D.Device.past c.drafted_as.new.device) (c.a_tried_part_leaves_the_state.ensures.each before (g.D.Device.past c.args.device.now) (g.D.Device.past c.drafted_as.new.device) sure (c.drafted_as.ensures.tried honest))

pub returns-in-Ok-clause-sure : goal.returns-in-Ok-clause-sure
returns-in-Ok-clause-sure g c honest unfailed =
    c.in-Ok.ensures.placed (state_text Two c.args.states.now) (g.D.Device.past c.args.device.now) (c.drafted_as.ensures.honest ∙ honest) (none_stands c.in-Some.draft.name)
    (it_is (λ _. IsWritten part_file (state_text Two c.args.states.now) (g.D.Device.past c.args.device.now) (g.D.Device.past c.drafted_as.new.device)) c.in_ok-drafted.drafted c.in-Some.draft c.in-Some.is (c.in_ok-drafted.ensures.text honest)) unfailed
