use Rattle.std.proofs.Common.{◌≡◌, IfNone, IsTrue, None, sym, ap, subst, ◌∙◌, arith}
use Rattle.std.specs.FinMap.{get}
use Rattle.std.specs.List.{find}
use Rattle.std.specs.Option.{option_or}
use Rattle.fork_push.specs.Push.{is_missing, is_wrong}
use Rattle.fork_reach.specs.Reach.{links_of_found}
use Rattle.fork_reach.proofs.AskedLemmas.{asked_again}
use Rattle.fork_push.proofs.LinkLemmas.{none_found, found_noted, missing_at}
use Rattle.fork_push.proofs.sent.judge_sent.Goals as goal

pub returns-in-Some-clause-found : goal.returns-in-Some-clause-found
returns-in-Some-clause-found g c honest =
    let both = (g.S.Source.state c.args.source.now).objects in
    let name = c.name-item.result in
    let before = c.loop-name.invariant in
    let told = c.in_ok-link.ensures.missing (subst IsTrue (sym before.asked.honest) honest) in
    missing_at both c.args.names.now c.loop-name.name-index name c.in-Some.link (omega arith) c.name-item.is (before.missing honest)
    (sym c.in-Some.is ∙ told ∙ ap (λ all. find (is_missing all) (links_of_found (get all name))) (before.asked.objects honest))

pub loop-name-preserved : goal.loop-name-preserved
loop-name-preserved g c =
    let old = g.S.Source.state c.args.source.now in
    let mid = g.S.Source.state c.loop-name.source in
    let both = old.objects in
    let names = c.args.names.now in
    let at = c.loop-name.name-index in
    let name = c.name-item.result in
    let before = c.loop-name.invariant in
    let told = c.in_ok-link.ensures in
    record {
      asked = asked_again old mid (g.S.Source.state c.judge_object.new.source) None before.asked told.asked;
      missing = λ honest. none_found (is_missing both) both names at name _ (omega arith) c.name-item.is (before.missing honest)
          (sym c.in_default.is ∙ told.missing (subst IsTrue (sym before.asked.honest) honest) ∙ ap (λ all. find (is_missing all) (links_of_found (get all name))) (before.asked.objects honest));
      wrong = λ honest. found_noted (is_wrong both) both names at name c.loop-name.wrong c.judge_object.new.wrong _ (omega arith) c.name-item.is (before.wrong honest)
          (subst (λ link. IfNone link (c.judge_object.new.wrong ≡ option_or c.loop-name.wrong (find (is_wrong mid.objects) (links_of_found (get mid.objects name))))) c.in_default.is (told.wrong (subst IsTrue (sym before.asked.honest) honest))
          ∙ ap (λ all. option_or c.loop-name.wrong (find (is_wrong all) (links_of_found (get all name)))) (before.asked.objects honest));
    }
