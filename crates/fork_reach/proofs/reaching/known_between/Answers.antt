use Rattle.std.proofs.Common.{sym, ◌∙◌}
use Rattle.std.proofs.lemmas.Option.{IfSome_then}
use Rattle.fork_reach.proofs.MeasureLemmas.{same_there}
use Rattle.fork_reach.proofs.reaching.known_between.Goals as goal

pub returns-in-Ok-clause-there : goal.returns-in-Ok-clause-there
returns-in-Ok-clause-there g c =
    let old = (g.S.Source.state c.args.source.now).objects in
    let mid = (g.S.Source.state c.keep_reached.new.self).objects in
    IfSome_then c.in-Ok.known c.in-Ok.ensures.there (λ found told name is. same_there old mid name (sym c.keep_reached.ensures.asked.measures) ∙ told name is)

pub returns-in-Ok-clause-rooted : goal.returns-in-Ok-clause-rooted
returns-in-Ok-clause-rooted g c none =
    let old = (g.S.Source.state c.args.source.now).objects in
    let mid = (g.S.Source.state c.keep_reached.new.self).objects in
    IfSome_then c.in-Ok.known (c.in-Ok.ensures.rooted none) (λ found told name root there. told name root (same_there mid old name c.keep_reached.ensures.asked.measures ∙ there))
