use Rattle.std.proofs.Common.{◌≤◌, length, ◌+◌, ◌∙◌, sym, subst, arith, refl}
use Rattle.object_table.specs.Rows.{places_of}
use Rattle.object_table.specs.Holders.{is_held_in}
use Rattle.fork_ledger.specs.Checked.{HasChecked, WasAsked, checked_until}
use Rattle.fork_ledger.specs.Harms.{HarmMap}
use Rattle.fork_ledger.proofs.CheckLemmas.{asked_all, asked_none, checked_all, checked_none, checked_over}
use Rattle.fork_ledger.proofs.checking.check_all.Goals as goal

pub loop-at-init : goal.loop-at-init
loop-at-init g c =
    let honest = c.args.files.now.honest in
    let contents = c.args.files.now.contents in
    let held = is_held_in c.args.holdings.now.ledgers in
    let names = (places_of c.args.holdings.now.catalogue).names in
    record {
      checks = subst (λ (m : HarmMap). HasChecked honest contents (checked_until held names 0) m) (sym c.new-harms.ensures) (checked_none honest contents held names);
      asked = asked_none c.args.files.now.failures held names;
      kept = λ h. refl;
      honest = refl;
      failures = refl;
    }

pub loop-at-preserved : goal.loop-at-preserved
loop-at-preserved g c =
    let honest = c.args.files.now.honest in
    let still = c.loop-at.files.honest in
    let contents = c.args.files.now.contents in
    let after = c.loop-at.files.contents in
    let held = is_held_in c.args.holdings.now.ledgers in
    let names = (places_of c.args.holdings.now.catalogue).names in
    let before = checked_over honest still contents after (checked_until held names c.loop-at.at) c.loop-at.harms c.loop-at.invariant.honest c.loop-at.invariant.kept c.loop-at.invariant.checks in
    record {
      checks = checked_over still honest after contents (checked_until held names (c.loop-at.at + 1)) c.check_place.new.harms (sym c.loop-at.invariant.honest)
          (λ h. sym (c.loop-at.invariant.kept (sym c.loop-at.invariant.honest ∙ h))) (c.in_ok-check_place.ensures.checks before);
      asked = subst (λ n. WasAsked n (checked_until held names (c.loop-at.at + 1))) c.loop-at.invariant.failures
          (c.in_ok-check_place.ensures.asked (subst (λ n. WasAsked n (checked_until held names c.loop-at.at)) (sym c.loop-at.invariant.failures) c.loop-at.invariant.asked));
      kept = λ h. c.check_place.ensures.kept (c.loop-at.invariant.honest ∙ h) ∙ c.loop-at.invariant.kept h;
      honest = c.check_place.ensures.honest ∙ c.loop-at.invariant.honest;
      failures = c.in_ok-check_place.ensures.cause ∙ c.loop-at.invariant.failures;
    }

pub returns-clause-checks : goal.returns-clause-checks
returns-clause-checks g c =
    let names = (places_of c.args.holdings.now.catalogue).names in
    let end : length names ≤ c.loop-at.at = omega (arith, c.len-at-end.ensures, c.loop-at-test.false) in
    checked_all c.args.files.now.honest c.args.files.now.contents (is_held_in c.args.holdings.now.ledgers) names c.loop-at.at c.loop-at.harms end c.held_names_are_catalogued.ensures c.loop-at.invariant.checks

pub returns-clause-asked : goal.returns-clause-asked
returns-clause-asked g c =
    let names = (places_of c.args.holdings.now.catalogue).names in
    let end : length names ≤ c.loop-at.at = omega (arith, c.len-at-end.ensures, c.loop-at-test.false) in
    asked_all c.args.files.now.failures (is_held_in c.args.holdings.now.ledgers) names c.loop-at.at end c.held_names_are_catalogued.ensures c.loop-at.invariant.asked
