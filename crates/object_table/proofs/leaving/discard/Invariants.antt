use Rattle.std.proofs.Common.{◌≡◌, ◌<◌, ◌≤◌, ◌-◌, ℕ, false}
use Rattle.number_links.specs.Numbers.{has}
use Rattle.object_table.specs.Words.{unstaged_word}
use Rattle.object_table.proofs.LeavingLemmas.{IsLeaving}
use Rattle.object_table.proofs.leaving.discard.Given as goal

-- nothing is staged of a number below this one
abbrev pub invariant-loop-n : goal.invariant-loop-n
invariant-loop-n l = record {
  leaving : IsLeaving (λ _ word. unstaged_word word) l.fn.table l.fn.own l.table l.own l.from;
  gone : (n : ℕ) → n < l.from → has l.own.staged n ≡ false;
  small : l.from ≤ 4294967295;
}

abbrev pub decreases-loop-n : goal.decreases-loop-n
decreases-loop-n l = 4294967296 - l.from
