use Rattle.packed_store.proofs.RemovalLemmas.{all_elsewhere}
use Rattle.packed_store.proofs.index.has_none_in.Goals as goal

pub returns : goal.returns
returns c are = all_elsewhere c.args.index.now.entries c.args.segment (c.are_elsewhere.ensures.0 are)
