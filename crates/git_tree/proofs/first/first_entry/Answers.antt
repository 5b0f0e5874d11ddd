use Rattle.std.proofs.Common.{arith}
use Rattle.std.proofs.lemmas.Grind.{common_steps}
use Rattle.git_tree.specs.Entry.{plain_entry}
use Rattle.git_tree.proofs.FormLemmas.{row_no_fault}
use Rattle.git_tree.proofs.RowLemmas.{row_step}
use Rattle.git_tree.proofs.first.first_entry.Goals as goal

pub returns-in-Ok-clause-first : goal.returns-in-Ok-clause-first
returns-in-Ok-clause-first c row = (row_step c.args.bytes.now (plain_entry c.in-Ok.entry) c.in-Ok.behind.now c.in-Ok.ensures.entry c.in-Ok.ensures.parts row).0

pub returns-in-Ok-clause-row : goal.returns-in-Ok-clause-row
returns-in-Ok-clause-row c row = (row_step c.args.bytes.now (plain_entry c.in-Ok.entry) c.in-Ok.behind.now c.in-Ok.ensures.entry c.in-Ok.ensures.parts row).1

pub returns-in-Err-clause-none : goal.returns-in-Err-clause-none
returns-in-Err-clause-none c row = absurd (row_no_fault c.in-Err.field-0 c.args.bytes.now row (grind (arith, common_steps)) c.in-Err.ensures.fault)
