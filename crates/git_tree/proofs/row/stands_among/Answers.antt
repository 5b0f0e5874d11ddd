use Rattle.std.proofs.Common.{◌≡◌, ◌≢◌, ◌∷◌, rules}
use Rattle.git_tree.specs.Entry.{plain_entry}
use Rattle.git_tree.proofs.ListLemmas.{any_behind}
use Rattle.git_tree.proofs.row.stands_among.Goals as goal

pub loop-entry-preserved : goal.loop-entry-preserved
loop-entry-preserved c =
    let steps : c.loop-entry.entry-iterator ≡ plain_entry c.in-Some.entry ∷ c.next.new.self = c.in-Some.ensures.steps in
    let apart : c.in-Some.entry.file_name.now ≢ c.args.file_name.now = search rules in
    record {
      none = λ all. c.loop-entry.invariant.none (rw steps (apart, all));
      some = λ any. c.loop-entry.invariant.some (rw steps (any_behind (λ e. e.file_name ≡ c.args.file_name.now) (plain_entry c.in-Some.entry) c.next.new.self any));
    }
