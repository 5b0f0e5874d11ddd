use Rattle.std.proofs.Common.{◌≡◌, ◌++◌, length}
use Rattle.shared_map.specs.Chunks.{joined}
use Rattle.shared_map.proofs.iter.IterIterator.next.Given as goal

-- what is left is the same
abbrev pub invariant-chunks : goal.invariant-chunks
invariant-chunks l = l.self-inside.entries.now ++ joined l.self-inside.chunks.now ≡ l.fn.self

abbrev pub decreases-chunks : goal.decreases-chunks
decreases-chunks l = length l.self-inside.chunks.now
