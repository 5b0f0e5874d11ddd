use Rattle.std.proofs.Common.{◌≡◌, ◌+◌, ℕ}
use Rattle.std.specs.Prelude.{sum_by}
use Rattle.std.specs.Option.{option_copied}
use Rattle.object_table.specs.Coming.{coming_in, use_of_entry}
use Rattle.object_table.specs.Views.{words_under}
use Rattle.object_table.specs.Totals.{capped}
use Rattle.object_table.proofs.CappedLemmas.{CountsTo}
use Rattle.object_table.proofs.coming.use_with_coming.Given as goal

-- the total is that of what was before and of all but the names that are left
abbrev pub invariant-loop-name : goal.invariant-loop-name
invariant-loop-name l = (before : ℕ) → l.fn.used ≡ capped before → CountsTo (before + sum_by use_of_entry (coming_in (words_under l.table.entries (option_copied l.shown)) (words_under l.table.entries (option_copied l.own)) l.names.keys)) (sum_by use_of_entry (coming_in (words_under l.table.entries (option_copied l.shown)) (words_under l.table.entries (option_copied l.own)) l.name-iterator)) l.total
