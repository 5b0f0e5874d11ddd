use Rattle.std.proofs.Common.{◌≡◌, drop}
use Rattle.std.specs.List.{All}
use Rattle.object_table.specs.AllStaged.{all_staged_words}
use Rattle.object_table.specs.Clashes.{HasRow}
use Rattle.object_table.specs.Views.{HasRoom, IsOne, Moves, words_of}
use Rattle.object_table.proofs.staging.stage_entries.Given as goal

-- the entries that are left make of the words what all make of them at first
abbrev pub invariant-loop-entry : goal.invariant-loop-entry
invariant-loop-entry l = record {
  words : all_staged_words (drop l.entry-index l.entries) (words_of l.table.entries l.own) ≡ all_staged_words l.entries (words_of l.fn.table.entries l.fn.own);
  moves : Moves l.fn.table l.table l.fn.own l.own;
  one : IsOne l.table.entries l.own;
  rows : All (HasRow l.table.entries) l.entries;
  room : All (λ entry. HasRoom l.table.entries l.own entry.name) l.entries;
}
