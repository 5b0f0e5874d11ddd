use Rattle.packed_store.proofs.LawLemmas as law
use Rattle.packed_store.proofs.laws.one_record.Goals as goal

pub returns : goal.returns
returns c = law.one_record
