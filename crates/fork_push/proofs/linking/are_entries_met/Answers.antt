use Rattle.std.proofs.Common.{ap, length, sym, ◌∙◌}
use Rattle.std.specs.List.{find, flat_map}
use Rattle.git_tree.specs.Entry.{plain_entry}
use Rattle.git_tree.specs.Row.{entries_in}
use Rattle.git_tree.proofs.RowLemmas.{row_none}
use Rattle.git_object.specs.Links.{entry_links}
use Rattle.fork_push.specs.Push.{is_wrong}
use Rattle.fork_push.proofs.LinkLemmas.{entry_passed, tree_passed}
use Rattle.fork_push.proofs.linking.are_entries_met.Goals as goal

pub loop-entry-preserved : goal.loop-entry-preserved
loop-entry-preserved g c =
    let test = is_wrong (g.S.Source.state c.args.source.now).objects in
    record {
      row = λ right. c.in-Some.ensures.row (c.loop-entry.invariant.row right);
      wrong = λ right.
          sym (entry_passed test (plain_entry c.in-Some.entry) (entries_in c.in-Some.behind.now) c.if-not-is_entry_met.ensures)
          ∙ ap (λ each. find test (flat_map entry_links each)) (sym (c.in-Some.ensures.first (c.loop-entry.invariant.row right)))
          ∙ c.loop-entry.invariant.wrong right;
    }

pub returns : goal.returns
returns g c =
    let test = is_wrong (g.S.Source.state c.args.source.now).objects in
    tree_passed test c.args.bytes.now (λ right.
    sym (c.loop-entry.invariant.wrong right)
    ∙ ap (λ each. find test (flat_map entry_links each)) (row_none c.loop-entry.rest.now (ap length (c.in_default.ensures.none (c.loop-entry.invariant.row right)))))
