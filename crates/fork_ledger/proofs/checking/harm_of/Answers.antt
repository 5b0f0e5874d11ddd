use Rattle.fork_ledger.proofs.CheckLemmas.{shown_damaged, shown_lost, shown_whole}
use Rattle.fork_ledger.proofs.checking.harm_of.Goals as goal

pub returns-in-Ok-Some-clause-shows : goal.returns-in-Ok-Some-clause-shows
returns-in-Ok-Some-clause-shows g c = shown_whole c.args.files.now.honest c.args.files.now.contents c.args.name c.in-Ok-Some.field-0-0 (λ h. rw c.in-Ok-Some.field-0-is at c.in-Ok-Some.ensures.reads h) (rw c.in-Ok-Some.field-0-is at c.in-Ok-Some.ensures.named)

pub returns-in-Ok-None-clause-shows : goal.returns-in-Ok-None-clause-shows
returns-in-Ok-None-clause-shows g c = shown_lost c.args.files.now.honest c.args.files.now.contents c.args.name (λ h. rw c.in-Ok-None.field-0-is at c.in-Ok-None.ensures.reads h)

pub returns-in-Err-Damaged-clause-shows : goal.returns-in-Err-Damaged-clause-shows
returns-in-Err-Damaged-clause-shows g c = shown_damaged c.args.files.now.honest c.args.files.now.contents c.args.name (λ h. rw c.in-Err-Damaged.field-0-is at c.in-Err-Damaged.ensures.reads h)
