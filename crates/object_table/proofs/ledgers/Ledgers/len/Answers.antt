use Rattle.std.proofs.Common.{◌∙◌, ap, length, sym}
use Rattle.std.specs.FinMap as map
use Rattle.git_name.proofs.Names.{name_total}
use Rattle.git_name.proofs.TreeMaps.{entries_of_ordered}
use Rattle.object_table.proofs.ledgers.Ledgers.len.Goals as goal

pub returns : goal.returns
returns c =
    c.len.ensures.len ∙ sym (ap length (entries_of_ordered name_total c.self.inside.tenants.entries c.len.ensures.ordered))
    ∙ sym (map.len-entries (map.from_entries c.self.inside.tenants.entries)) ∙ ap map.len c.self.view_is
