use Rattle.std.proofs.Common.{◌≡◌, IsTrue, sym, subst, ◌∙◌}
use Rattle.std.specs.HashSet.{contains}
use Rattle.std.proofs.lemmas.Bool.{and_parts}
use Rattle.std.proofs.lemmas.Result.{IfOk-weaker}
use Rattle.git_name.specs.Same.{same_name}
use Rattle.fork_reach.specs.Hidden.{without}
use Rattle.fork_reach.specs.Reach.{is_reached, linked_names}
use Rattle.fork_reach.specs.Source.{Objects}
use Rattle.fork_reach.proofs.HiddenLemmas.{none_hidden, reached_beyond, there_without}
use Rattle.fork_reach.proofs.MeasureLemmas.{same_there}
use Rattle.fork_reach.proofs.reaching.walk_between.Goals as goal

pub returns-clause-found : goal.returns-clause-found
returns-clause-found g c = λ honest.
    let old = (g.S.Source.state c.args.source.now).objects in
    let first = c.in_ok-hidden.ensures.asked in
    let hides = contains same_name c.in_ok-hidden.hidden in
    let wanted = c.args.wanted.now in
    IfOk-weaker c.walk.result _ _ (λ found told name.
    subst (λ (all : Objects). contains same_name found name ≡ is_reached (linked_names all) (without all hides) wanted name) (first.objects honest) (told name) ∙ reached_beyond (linked_names old) old hides wanted c.args.excluded.now (c.in_ok-hidden.ensures.found honest) name)
    (c.walk.ensures.found (subst IsTrue (sym first.honest) honest))

pub returns-clause-there : goal.returns-clause-there
returns-clause-there g c =
    let old = (g.S.Source.state c.args.source.now).objects in
    let mid = (g.S.Source.state c.walk_all.new.source).objects in
    let hides = contains same_name c.in_ok-hidden.hidden in
    IfOk-weaker c.walk.result _ _ (λ found told name is.
    same_there old mid name (sym c.in_ok-hidden.ensures.asked.measures) ∙ (and_parts _ _ (sym (there_without mid hides name) ∙ told name is)).0)
    c.walk.ensures.there

pub returns-clause-rooted : goal.returns-clause-rooted
returns-clause-rooted g c = λ none.
    let old = (g.S.Source.state c.args.source.now).objects in
    let mid = (g.S.Source.state c.walk_all.new.source).objects in
    let hides = contains same_name c.in_ok-hidden.hidden in
    IfOk-weaker c.walk.result _ _ (λ found told name root there.
    told name root (none_hidden mid hides (c.in_ok-hidden.ensures.none none) name ∙ same_there mid old name c.in_ok-hidden.ensures.asked.measures ∙ there))
    c.walk.ensures.rooted
