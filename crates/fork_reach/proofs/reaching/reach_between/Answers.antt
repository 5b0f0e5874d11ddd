use Rattle.std.proofs.Common.{sym, ◌∙◌}
use Rattle.std.proofs.lemmas.Result.{IfOk-weaker}
use Rattle.fork_reach.proofs.MeasureLemmas.{same_there}
use Rattle.fork_reach.proofs.reaching.reach_between.Goals as goal

pub returns-clause-there : goal.returns-clause-there
returns-clause-there g c =
    let old = (g.S.Source.state c.args.source.now).objects in
    let mid = (g.S.Source.state c.known_between.new.source).objects in
    IfOk-weaker c.walk_between.result _ _ (λ found told name is. same_there old mid name (sym c.in_ok-known.ensures.asked.measures) ∙ told name is) c.walk_between.ensures.there

pub returns-clause-rooted : goal.returns-clause-rooted
returns-clause-rooted g c none =
    let old = (g.S.Source.state c.args.source.now).objects in
    let mid = (g.S.Source.state c.known_between.new.source).objects in
    IfOk-weaker c.walk_between.result _ _ (λ found told name root there. told name root (same_there mid old name c.in_ok-known.ensures.asked.measures ∙ there)) (c.walk_between.ensures.rooted none)
