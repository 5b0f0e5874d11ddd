use Rattle.std.proofs.Common.{sym, ◌∙◌}
use Rattle.git_tree.proofs.RowLemmas.{row_is_of}
use Rattle.git_tree.proofs.laws.one_list_of_entries.Goals as goal

pub returns-clause-entries : goal.returns-clause-entries
returns-clause-entries c = λ bytes row other a b. sym (row_is_of bytes row a.are.each a.spelling).0 ∙ (row_is_of bytes other b.are.each b.spelling).0

pub returns-clause-bytes : goal.returns-clause-bytes
returns-clause-bytes c = λ row bytes other a b. a.spelling ∙ sym b.spelling
