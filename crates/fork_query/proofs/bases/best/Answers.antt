use Rattle.std.proofs.Common.{◌≡◌, ℕ, true, List, subst, sym, ◌∙◌}
use Rattle.std.specs.FinMap.{contains_key}
use Rattle.std.specs.HashSet.{contains}
use Rattle.std.specs.Option.{IfSome}
use Rattle.std.proofs.lemmas.Result.{IfOk-weaker}
use Rattle.git_name.specs.Same.{same_name}
use Rattle.fork_reach.specs.Bases.{is_best_of}
use Rattle.fork_reach.proofs.MeasureLemmas.{same_there}
use Rattle.fork_query.proofs.BaseLemmas.{best_of}
use Rattle.fork_query.proofs.bases.best.Goals as goal

pub returns-in-Ok-Some-clause-best : goal.returns-in-Ok-Some-clause-best
returns-in-Ok-Some-clause-best g c = λ honest name.
    let old = g.S.Source.state c.args.source.now in
    let told = subst (λ found. IfSome found (λ best. (n : List ℕ) → contains same_name best n ≡ is_best_of old.objects c.args.a c.args.b n)) c.in-Ok-Some.field-0-is (c.in-Ok-Some.ensures.best honest) in
    told name ∙ best_of old.objects c.args.a c.args.b name

pub returns-in-Ok-Some-clause-seen : goal.returns-in-Ok-Some-clause-seen
returns-in-Ok-Some-clause-seen g c =
    let old = g.S.Source.state c.args.source.now in
    subst (λ found. IfSome found (λ best. (n : List ℕ) → contains same_name best n ≡ true → contains_key old.objects n ≡ true)) c.in-Ok-Some.field-0-is c.in-Ok-Some.ensures.seen

pub returns-in-Ok-None-clause-seen : goal.returns-in-Ok-None-clause-seen
returns-in-Ok-None-clause-seen g c =
    let old = g.S.Source.state c.args.source.now in
    let now = g.S.Source.state c.known_bases.new.self in
    IfOk-weaker c.read_bases.result _ _ (λ best there name is. sym (same_there now.objects old.objects name c.known_bases.ensures.asked.measures) ∙ there name is) c.read_bases.ensures.seen
