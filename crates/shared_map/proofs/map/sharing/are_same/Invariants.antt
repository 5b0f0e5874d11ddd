use Rattle.std.proofs.Common.{◌≡◌, take}
use Rattle.shared_map.proofs.map.sharing.are_same.Given as goal

-- the entries so far are equal
abbrev pub invariant-loop-at : goal.invariant-loop-at
invariant-loop-at l = take l.at l.entries ≡ take l.at l.others
