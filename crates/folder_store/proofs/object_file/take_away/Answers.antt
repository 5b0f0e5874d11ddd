use Rattle.std.proofs.Common.{Bool, Ok, Result, true}
use Rattle.devices.specs.declared.device.DeviceFault.{DeviceFault}
use Rattle.folder_store.proofs.EffectLemmas.{moved_ok, moved_others}
use Rattle.folder_store.proofs.object_file.take_away.Goals as goal

-- the file was renamed, or there was none
abbrev renamed : Result Bool DeviceFault
renamed = Ok true

pub returns-in-Ok-clause-swept : goal.returns-in-Ok-clause-swept
returns-in-Ok-clause-swept g c honest name is_name path none =
    moved_ok (g.D.Device.honest c.args.device.now) (g.D.Device.honest c.rename.new.self) (g.D.Device.past c.args.device.now) (g.D.Device.past c.rename.new.self) honest c.rename.ensures.honest name c.args.path.now is_name path c.args.swept.now none renamed (c.in-Ok.ensures.effect honest)

pub returns-in-Ok-clause-others : goal.returns-in-Ok-clause-others
returns-in-Ok-clause-others g c honest name is_name path none =
    moved_others (g.D.Device.honest c.args.device.now) (g.D.Device.honest c.rename.new.self) (g.D.Device.past c.args.device.now) (g.D.Device.past c.rename.new.self) honest c.rename.ensures.honest name c.args.path.now is_name path c.args.swept.now none renamed (c.in-Ok.ensures.effect honest)

pub returns-in-Err-clause-others : goal.returns-in-Err-clause-others
returns-in-Err-clause-others g c honest name is_name path none =
    moved_others (g.D.Device.honest c.args.device.now) (g.D.Device.honest c.rename.new.self) (g.D.Device.past c.args.device.now) (g.D.Device.past c.rename.new.self) honest c.rename.ensures.honest name c.args.path.now is_name path c.args.swept.now none c.rename.result (c.rename.ensures.effect honest)
