use Rattle.std.proofs.Common.{ap, ◌∙◌, ◌++◌, List, ℕ}
use Rattle.git_name.specs.Text.{ended}
use Rattle.git_commit.specs.Commit.{parent_line}
use Rattle.git_commit.proofs.WritingLemmas.{one_name_more, one_parent_more}
use Rattle.git_commit.proofs.writing.put_parents.Goals as goal

pub loop-parent-preserved : goal.loop-parent-preserved
loop-parent-preserved c =
    record {
      lines = one_parent_more c.put_name.new.out.items c.args.out.now.items c.args.parents.now c.loop-parent.parent-index c.parent-item.result c.loop-parent-test.true c.parent-item.is
          (c.in_ok-put_name.ensures.line ∙ ap (λ (t : List ℕ). t ++ ended (parent_line c.parent-item.result)) c.loop-parent.invariant.lines);
      names = one_name_more c.args.parents.now c.loop-parent.parent-index c.parent-item.result c.loop-parent-test.true c.parent-item.is c.loop-parent.invariant.names c.in_ok-put_name.ensures.name;
    }
