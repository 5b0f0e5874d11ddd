use Rattle.std.proofs.Common.{◌∙◌}
use Rattle.git_name.specs.Same.{same_name}
use Rattle.indexmap.proofs.CallerLemmas.{insert_entry-new}
use Rattle.object_table.proofs.rows.put_last.Goals as goal

pub returns-clause-entries : goal.returns-clause-entries
returns-clause-entries c = c.in-Ok.ensures.entries ∙ insert_entry-new same_name c.args.rows.now c.args.name c.args.row c.requires.absent
