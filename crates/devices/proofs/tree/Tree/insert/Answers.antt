use Rattle.std.proofs.Common.{◌∙◌, ap}
use Rattle.std.specs.FinMap as map
use Rattle.std.proofs.lemmas.Result.{on_ok_weaker}
use Rattle.git_name.proofs.Names.{name_total, name_exact}
use Rattle.git_name.proofs.TreeMaps.{entries_after_insert}
use Rattle.devices.specs.Device.{Files}
use Rattle.devices.proofs.tree.Tree.insert.Goals as goal

pub returns-clause-ok : goal.returns-clause-ok
returns-clause-ok c = on_ok_weaker c.put.result (λ updates.
    entries_after_insert name_total name_exact c.self.inside.files.entries c.put.new.files.entries c.args.path c.args.bytes updates.0
    ∙ ap (λ (m : Files). map.insert m c.args.path c.args.bytes) c.self.view_is) c.put.ensures.ok
