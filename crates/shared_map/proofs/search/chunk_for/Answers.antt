use Rattle.std.proofs.Common.{◌-◌, arith}
use Rattle.shared_map.proofs.ChunkLemmas.{behind_chunk, ends_chunk, before_fewer}
use Rattle.shared_map.proofs.search.chunk_for.Goals as goal

pub returns-then-at-chunks-clause-behind : goal.returns-then-at-chunks-clause-behind
returns-then-at-chunks-clause-behind c =
    behind_chunk c.args.key.now c.args.chunks.now c.count_chunks_before-at.result c.if-at-chunks.true c.requires.order c.count_chunks_before-at.ensures.reached

pub returns-then-at-chunks-clause-last : goal.returns-then-at-chunks-clause-last
returns-then-at-chunks-clause-last c before =
    ends_chunk c.args.key.now c.args.chunks.now c.count_chunks_before-at.result c.if-at-chunks.true c.count_chunks_before-at.ensures.reached before

pub returns-clause-before : goal.returns-clause-before
returns-clause-before c =
    before_fewer c.args.key.now c.args.chunks.now (c.count_chunks_before-at.result - 1) c.count_chunks_before-at.result (omega arith) c.count_chunks_before-at.ensures.before
