use Rattle.std.proofs.Common.{◌∙◌}
use Rattle.folder_store.proofs.SweptLemmas.{swept_after}
use Rattle.folder_store.proofs.CallLemmas.{sweeps_file}
use Rattle.folder_store.proofs.object_file.sweep_file.Goals as goal

pub returns-clause-swept : goal.returns-clause-swept
returns-clause-swept g c honest =
    swept_after (g.D.Device.past c.args.device.now) (g.D.Device.past c.take_away.new.device) c.args.name c.as_str.result.now c.as_str-2.result.now c.take_away.result c.in_ok-path.ensures.name
    (c.as_str.ensures.value ∙ c.in_ok-path.ensures.path) (c.as_str-2.ensures.value ∙ c.in_ok-swept.ensures.path) (c.take_away.ensures.effect honest)

pub returns-clause-lasts : goal.returns-clause-lasts
returns-clause-lasts g c honest =
    sweeps_file (g.D.Device.past c.args.device.now) (g.D.Device.past c.take_away.new.device) c.args.name c.as_str.result.now c.as_str-2.result.now c.take_away.result c.in_ok-path.ensures.name
    (c.as_str.ensures.value ∙ c.in_ok-path.ensures.path) (c.as_str-2.ensures.value ∙ c.in_ok-swept.ensures.path) (c.take_away.ensures.effect honest)
