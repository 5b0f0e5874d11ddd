use Rattle.std.proofs.Common.{None, sym, ◌∙◌}
use Rattle.fork_reach.proofs.AskedLemmas.{asked_again}
use Rattle.fork_reach.proofs.MeasureLemmas.{same_there}
use Rattle.fork_query.proofs.bases.merge_base.Goals as goal

pub returns-clause-seen : goal.returns-clause-seen
returns-clause-seen g c =
    let old = g.S.Source.state c.args.source.now in
    let mid = g.S.Source.state c.named_item.new.source in
    let last = g.S.Source.state c.named_item-2.new.source in
    let asked = asked_again old mid last None c.in_ok-a.ensures.asked c.in_ok-b.ensures.asked in
    let told = c.in_ok-bases.ensures.seen in
    record {
      names = told.names;
      lines = told.lines;
      ordered = told.ordered;
      seen = λ name among. sym (same_there last.objects old.objects name asked.measures) ∙ told.seen name among;
    }
