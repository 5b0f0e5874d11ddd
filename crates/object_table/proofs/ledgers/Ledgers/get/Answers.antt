use Rattle.std.proofs.Common.{◌∙◌, ap, sym}
use Rattle.std.specs.FinMap as map
use Rattle.git_name.proofs.Names.{name_total}
use Rattle.git_name.proofs.TreeMaps.{get_of_entries}
use Rattle.object_table.proofs.ledgers.Ledgers.get.Goals as goal

pub returns : goal.returns
returns c = c.get.ensures.value ∙ sym (get_of_entries name_total c.self.inside.tenants.entries c.args.tenant.now) ∙ ap (λ m. map.get m c.args.tenant.now) c.self.view_is
