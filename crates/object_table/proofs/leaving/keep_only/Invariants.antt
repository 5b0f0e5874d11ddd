use Rattle.std.proofs.Common.{◌≤◌, ◌-◌}
use Rattle.object_table.specs.Words.{kept_word}
use Rattle.object_table.proofs.LeavingLemmas.{IsLeaving}
use Rattle.object_table.proofs.leaving.keep_only.Given as goal

-- of numbers below this one only those of the names are seen
abbrev pub invariant-loop-n : goal.invariant-loop-n
invariant-loop-n g l = record {
  leaving : IsLeaving (λ name word. kept_word (g.N.NameSet.names l.names name) word) l.fn.table l.fn.own l.table l.own l.from;
  small : l.from ≤ 4294967295;
}

abbrev pub decreases-loop-n : goal.decreases-loop-n
decreases-loop-n g l = 4294967296 - l.from
