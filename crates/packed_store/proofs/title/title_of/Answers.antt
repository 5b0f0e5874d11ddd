use Rattle.packed_store.proofs.RefusalLemmas.{no_form}
use Rattle.packed_store.proofs.title.title_of.Goals as goal

pub returns-clause-none : goal.returns-clause-none
returns-clause-none c = no_form c.long_title_of.result c.args.bytes.now (c.is_short.ensures.long c.if-is_short.false) c.long_title_of.ensures.none
