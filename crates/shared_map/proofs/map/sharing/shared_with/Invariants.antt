use Rattle.std.proofs.Common.{◌≡◌, take}
use Rattle.shared_map.proofs.map.sharing.shared_with.Given as goal

-- those so far
abbrev pub invariant-loop-at : goal.invariant-loop-at
invariant-loop-at l = l.new.items ≡ take l.at l.chunks
