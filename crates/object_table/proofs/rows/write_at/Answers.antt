use Rattle.std.proofs.Common.{sym, subst}
use Rattle.std.specs.List.{IsDistinct}
use Rattle.std.proofs.lemmas.Cmp.{nat_list_eq_equiv}
use Rattle.git_name.specs.Same.{same_name}
use Rattle.indexmap.proofs.CallerLemmas.{keys-with_value_at, updates-with_value_at}
use Rattle.object_table.proofs.RowLemmas.{numbers_written}
use Rattle.object_table.proofs.rows.write_at.Goals as goal

pub returns-clause-keys : goal.returns-clause-keys
returns-clause-keys c = keys-with_value_at c.args.rows.now c.args.at c.args.row

pub returns-clause-rows : goal.returns-clause-rows
returns-clause-rows c p is q = (updates-with_value_at c.args.rows.now c.args.at c.args.row nat_list_eq_equiv c.get_index_mut.ensures.unique p.0 p.1 is).0 q

pub returns-clause-numbers : goal.returns-clause-numbers
returns-clause-numbers c p is same = numbers_written c.args.rows.now.entries c.args.at p c.args.row is same

pub returns-clause-distinct : goal.returns-clause-distinct
returns-clause-distinct c = subst (IsDistinct same_name) (sym (keys-with_value_at c.args.rows.now c.args.at c.args.row)) c.get_index_mut.ensures.unique
