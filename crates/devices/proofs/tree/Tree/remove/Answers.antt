use Rattle.std.proofs.Common.{◌∙◌, ap}
use Rattle.std.specs.FinMap as map
use Rattle.git_name.proofs.Names.{name_total, name_exact}
use Rattle.git_name.proofs.TreeMaps.{entries_after_remove}
use Rattle.devices.specs.Device.{Files}
use Rattle.devices.proofs.tree.Tree.remove.Goals as goal

pub returns : goal.returns
returns c =
    entries_after_remove name_total name_exact c.self.inside.files.entries c.take_out.new.files.entries c.args.path.now c.take_out.ensures.0
    ∙ ap (λ (m : Files). map.remove m c.args.path.now) c.self.view_is
