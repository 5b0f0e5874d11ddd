use Rattle.std.proofs.Common.{◌≡◌, length, sym, ◌∙◌, arith}
use Rattle.std.specs.HashSet.{contains}
use Rattle.std.proofs.lemmas.Grind.{common_steps}
use Rattle.std.proofs.lemmas.Result.{IfOk-weaker}
use Rattle.git_name.specs.Same.{same_name}
use Rattle.fork_reach.specs.Reach.{linked_names}
use Rattle.fork_reach.proofs.HiddenLemmas.{reached_all}
use Rattle.fork_reach.proofs.NameLemmas.{hashes_none}
use Rattle.fork_reach.proofs.ReachLemmas.{none_reached}
use Rattle.fork_reach.proofs.reaching.walk_all.Goals as goal

pub returns-then-is_empty-clause-found : goal.returns-then-is_empty-clause-found
returns-then-is_empty-clause-found g c = λ honest name.
    let objects = (g.S.Source.state c.args.source.now).objects in
    let none : length c.args.roots.now ≡ 0 = grind (arith, common_steps) in
    hashes_none c.with_hasher-none.result.keys c.with_hasher-none.ensures.empty name ∙ sym (none_reached (linked_names objects) objects c.args.roots.now none name)

pub returns-clause-found : goal.returns-clause-found
returns-clause-found g c = λ honest.
    let objects = (g.S.Source.state c.args.source.now).objects in
    IfOk-weaker c.walk.result _ _ (λ found told name. told name ∙ reached_all (linked_names objects) objects (contains same_name c.with_hasher-none.result) c.args.roots.now (hashes_none c.with_hasher-none.result.keys c.with_hasher-none.ensures.empty) name) (c.walk.ensures.found honest)
