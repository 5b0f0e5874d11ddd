use Rattle.std.proofs.Common.{◌≡◌, ◌++◌, drop}
use Rattle.shared_map.specs.Chunks.{joined}
use Rattle.shared_map.proofs.chunk.share_entries.Given as goal

-- the entries so far, and then those of the chunks that are left, are those of all
abbrev pub invariant-loop-chunk : goal.invariant-loop-chunk
invariant-loop-chunk l = l.out.items ++ joined (drop l.chunk-index l.chunks) ≡ l.fn.out.items ++ joined l.chunks
