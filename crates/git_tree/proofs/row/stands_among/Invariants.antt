use Rattle.std.proofs.Common.{◌≡◌, ◌≢◌}
use Rattle.std.specs.List.{AllByRecursion, Any}
use Rattle.git_tree.specs.Row.{entries_in}
use Rattle.git_tree.proofs.row.stands_among.Given as goal

-- none so far has the file name
abbrev pub invariant-loop-entry : goal.invariant-loop-entry
invariant-loop-entry l = record {
  none : AllByRecursion (λ e. e.file_name ≢ l.file_name) l.entry-iterator → AllByRecursion (λ e. e.file_name ≢ l.file_name) (entries_in l.bytes);
  some : Any (λ e. e.file_name ≡ l.file_name) l.entry-iterator → Any (λ e. e.file_name ≡ l.file_name) (entries_in l.bytes);
}
