use Rattle.std.proofs.Common.{◌≡◌, ◌++◌, take}
use Rattle.shared_map.proofs.chunk.share_chunks.Given as goal

-- those so far
abbrev pub invariant-loop-chunk : goal.invariant-loop-chunk
invariant-loop-chunk l = l.out.items ≡ l.fn.out.items ++ take l.chunk-index l.chunks
