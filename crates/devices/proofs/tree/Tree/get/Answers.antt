use Rattle.std.proofs.Common.{sym, ◌∙◌, ap}
use Rattle.std.specs.FinMap as map
use Rattle.git_name.proofs.Names.{name_total}
use Rattle.git_name.proofs.TreeMaps.{get_of_entries}
use Rattle.devices.specs.Device.{Files}
use Rattle.devices.proofs.tree.Tree.get.Goals as goal

pub returns : goal.returns
returns c = c.get.ensures.value ∙ sym (get_of_entries name_total c.self.inside.files.entries c.args.path.now) ∙ ap (λ (m : Files). map.get m c.args.path.now) c.self.view_is
