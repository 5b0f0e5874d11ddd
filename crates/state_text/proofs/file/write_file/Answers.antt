use Rattle.std.proofs.Common.{◌∙◌}
use Rattle.devices.proofs.SinkLemmas.{appended_to, part_appended, part_begun, part_synced, written_whole}
use Rattle.state_text.specs.Text.{state_text}
use Rattle.state_text.specs.declared.version.Version.TheVariants.{Two}
use Rattle.state_text.proofs.file.write_file.Goals as goal

pub returns-in_err-write-clause-part : goal.returns-in_err-write-clause-part
returns-in_err-write-clause-part g c honest = part_begun c.args.path.now (g.D.Device.past c.args.device.now) (g.D.Device.past c.write.new.self) c.write.result (c.write.ensures.effect honest)

pub returns-in_err-spelled-clause-part : goal.returns-in_err-spelled-clause-part
returns-in_err-spelled-clause-part g c honest =
    let appended = appended_to (g.D.Device.honest c.write.new.self) (g.D.Device.honest c.append_text.new.device) c.args.path.now (g.D.Device.past c.args.device.now) (g.D.Device.past c.write.new.self) (g.D.Device.past c.append_text.new.device) (c.write.ensures.honest ∙ honest)
    c.append_text.ensures.honest (c.in_ok-write.ensures.effect honest) c.append_text.ensures.beside in
    part_appended c.args.path.now (g.D.Device.past c.args.device.now) (g.D.Device.past c.append_text.new.device) appended

pub returns-in_err-sync_file-clause-part : goal.returns-in_err-sync_file-clause-part
returns-in_err-sync_file-clause-part g c honest =
    let appended = appended_to (g.D.Device.honest c.write.new.self) (g.D.Device.honest c.append_text.new.device) c.args.path.now (g.D.Device.past c.args.device.now) (g.D.Device.past c.write.new.self) (g.D.Device.past c.append_text.new.device) (c.write.ensures.honest ∙ honest)
    c.append_text.ensures.honest (c.in_ok-write.ensures.effect honest) c.append_text.ensures.beside in
    part_synced c.args.path.now (g.D.Device.past c.args.device.now) (g.D.Device.past c.append_text.new.device) (g.D.Device.past c.sync_file.new.self) c.sync_file.result appended (c.sync_file.ensures.effect (c.append_text.ensures.honest ∙ c.write.ensures.honest ∙ honest))

pub returns-clause-part : goal.returns-clause-part
returns-clause-part g c honest =
    let appended = appended_to (g.D.Device.honest c.write.new.self) (g.D.Device.honest c.append_text.new.device) c.args.path.now (g.D.Device.past c.args.device.now) (g.D.Device.past c.write.new.self) (g.D.Device.past c.append_text.new.device) (c.write.ensures.honest ∙ honest)
    c.append_text.ensures.honest (c.in_ok-write.ensures.effect honest) c.append_text.ensures.beside in
    part_synced c.args.path.now (g.D.Device.past c.args.device.now) (g.D.Device.past c.append_text.new.device) (g.D.Device.past c.sync_file.new.self) c.sync_file.result appended (c.sync_file.ensures.effect (c.append_text.ensures.honest ∙ c.write.ensures.honest ∙ honest))

pub returns-clause-text : goal.returns-clause-text
returns-clause-text g c honest =
    written_whole (g.D.Device.honest c.write.new.self) (g.D.Device.honest c.append_text.new.device) c.args.path.now (state_text Two c.args.states.now) (g.D.Device.past c.args.device.now) (g.D.Device.past c.write.new.self) (g.D.Device.past c.append_text.new.device) (g.D.Device.past c.sync_file.new.self) (c.write.ensures.honest ∙ honest)
    c.append_text.ensures.honest (c.in_ok-write.ensures.effect honest) c.append_text.ensures.beside c.in_ok-spelled.ensures.text (c.in_ok-sync_file.ensures.effect (c.append_text.ensures.honest ∙ c.write.ensures.honest ∙ honest))
