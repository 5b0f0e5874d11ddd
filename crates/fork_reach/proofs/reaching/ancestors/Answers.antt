use Rattle.std.proofs.Common.{sym, ◌∙◌}
use Rattle.std.specs.HashSet.{contains}
use Rattle.std.proofs.lemmas.Result.{IfOk-weaker}
use Rattle.git_name.specs.Same.{same_name}
use Rattle.fork_reach.specs.Reach.{parent_names}
use Rattle.fork_reach.proofs.HiddenLemmas.{none_hidden, reached_all}
use Rattle.fork_reach.proofs.NameLemmas.{hashes_none}
use Rattle.fork_reach.proofs.reaching.ancestors.Goals as goal

pub returns-clause-found : goal.returns-clause-found
returns-clause-found g c = λ honest.
    let objects = (g.S.Source.state c.args.source.now).objects in
    IfOk-weaker c.walk.result _ _ (λ found told name. told name ∙ reached_all (parent_names objects) objects (contains same_name c.with_hasher-none.result) c.args.commits.now (hashes_none c.with_hasher-none.result.keys c.with_hasher-none.ensures.empty) name) (c.walk.ensures.found honest)

pub returns-clause-there : goal.returns-clause-there
returns-clause-there g c =
    let objects = (g.S.Source.state c.args.source.now).objects in
    IfOk-weaker c.walk.result _ _ (λ found told name is. sym (none_hidden objects (contains same_name c.with_hasher-none.result) (hashes_none c.with_hasher-none.result.keys c.with_hasher-none.ensures.empty) name) ∙ told name is) c.walk.ensures.there

pub returns-clause-rooted : goal.returns-clause-rooted
returns-clause-rooted g c =
    let objects = (g.S.Source.state c.args.source.now).objects in
    IfOk-weaker c.walk.result _ _ (λ found told name root there. told name root (none_hidden objects (contains same_name c.with_hasher-none.result) (hashes_none c.with_hasher-none.result.keys c.with_hasher-none.ensures.empty) name ∙ there)) c.walk.ensures.rooted
