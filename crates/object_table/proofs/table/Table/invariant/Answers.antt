use Rattle.std.proofs.Common.{subst}
use Rattle.object_table.specs.Rows.{AreRows, TableState}
use Rattle.object_table.proofs.RowLemmas.{are_rows}
use Rattle.object_table.proofs.table.Table.invariant.Goals as goal

pub returns-clause-rows : goal.returns-clause-rows
returns-clause-rows c = subst (λ (s : TableState). AreRows s.entries) c.self.view_is (are_rows c.self.inside.rows.entries c.self.inside.numbers.items c.self.inside.places.items c.self.invariant.0)
