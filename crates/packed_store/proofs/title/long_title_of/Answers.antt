use Rattle.std.proofs.Common.{◌∙◌, arith}
use Rattle.packed_store.proofs.ReadingLemmas.{title_is}
use Rattle.packed_store.proofs.title.long_title_of.Goals as goal

pub returns-clause-title : goal.returns-clause-title
returns-clause-title c =
    title_is c.args.bytes.now _ _ _ c.in-Some-split_first_chunk.second.0.now _ _ _ (λ i. (c.type_inv.bytes i).fits) c.in-Some.ensures.cases.0
    c.in-Some-split_first_chunk.ensures.cases.0 c.in-Some-split_first_chunk.ensures.cases.1 c.in-Some-split_first_chunk.ensures.cases.2
    (c.new-name.ensures ∙ c.in-Some-split_first_chunk-2.ensures.cases.0) c.in-Some-split_first_chunk-2.ensures.cases.1 c.from_be_bytes-len.ensures c.as_bytes-own.ensures.name
    (omega arith) (omega arith)
