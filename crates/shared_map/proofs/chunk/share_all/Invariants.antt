use Rattle.std.proofs.Common.{◌≡◌, ◌++◌, take}
use Rattle.shared_map.proofs.chunk.share_all.Given as goal

-- those so far
abbrev pub invariant-loop-entry : goal.invariant-loop-entry
invariant-loop-entry l = l.out.items ≡ l.fn.out.items ++ take l.entry-index l.entries
