use Rattle.std.proofs.Common.{◌≤◌, ◌-◌}
use Rattle.object_table.specs.Links.{is_among}
use Rattle.object_table.specs.Words.{kept_word}
use Rattle.object_table.proofs.LeavingLemmas.{IsLeaving}
use Rattle.object_table.proofs.leaving.keep_numbers.Given as goal

-- of numbers below this one only those of the set are seen
abbrev pub invariant-loop-n : goal.invariant-loop-n
invariant-loop-n l = record {
  leaving : IsLeaving (λ name word. kept_word (is_among l.fn.table.entries l.numbers name) word) l.fn.table l.fn.own l.table l.own l.from;
  small : l.from ≤ 4294967295;
}

abbrev pub decreases-loop-n : goal.decreases-loop-n
decreases-loop-n l = 4294967296 - l.from
