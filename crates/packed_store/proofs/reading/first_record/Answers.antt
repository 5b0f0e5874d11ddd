use Rattle.packed_store.proofs.RefusalLemmas.{no_title}
use Rattle.packed_store.proofs.reading.first_record.Goals as goal

pub returns-in_default-clause-none : goal.returns-in_default-clause-none
returns-in_default-clause-none c = no_title c.args.bytes.now c.in_default.ensures.none
