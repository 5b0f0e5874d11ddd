use Rattle.std.proofs.Common.{◌∙◌}
use Rattle.std.proofs.lemmas.Result.{IfOk-weaker}
use Rattle.fork_reach.specs.Reach.{linked_names}
use Rattle.fork_reach.proofs.HiddenLemmas.{between_none}
use Rattle.fork_reach.proofs.reaching.reach.Goals as goal

pub returns-clause-found : goal.returns-clause-found
returns-clause-found g c = λ honest.
    let objects = (g.S.Source.state c.args.source.now).objects in
    IfOk-weaker c.reach_between.result _ _ (λ found told name. told name ∙ between_none (linked_names objects) objects c.args.roots.now name) (c.reach_between.ensures.found honest)
