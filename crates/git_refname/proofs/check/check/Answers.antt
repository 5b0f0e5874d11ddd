use Rattle.std.proofs.Common.{◌≡◌, sym, ap, ◌∙◌, take, arith}
use Rattle.std.specs.List.{find}
use Rattle.std.proofs.lemmas.List.{take_all}
use Rattle.git_refname.specs.Rule.{breaks, rules as rules_in_order, least_broken_rule}
use Rattle.git_refname.proofs.Finding.{found_at, none_more, name_short}
use Rattle.git_refname.proofs.check.check.Goals as goal

pub returns-then-breaks-clause-broken : goal.returns-then-breaks-clause-broken
unfolding least_broken_rule
returns-then-breaks-clause-broken c =
    found_at (breaks c.args.text.now) rules_in_order c.loop-rule.rule-index _ (omega arith) c.loop-rule.invariant.none (sym c.breaks.ensures ∙ c.if-breaks.true)

pub loop-rule-preserved : goal.loop-rule-preserved
loop-rule-preserved c = record {
  marks = c.loop-rule.invariant.marks;
  none = none_more (breaks c.args.text.now) rules_in_order c.loop-rule.rule-index _ (omega arith) c.loop-rule.invariant.none (sym c.breaks.ensures ∙ c.if-breaks.false);
}

pub returns-clause-short : goal.returns-clause-short
unfolding least_broken_rule
returns-clause-short c =
    let all : take c.loop-rule.rule-index rules_in_order ≡ rules_in_order = take_all c.loop-rule.rule-index rules_in_order (omega arith) in
    name_short c.args.text.now (ap (find (breaks c.args.text.now)) (sym all) ∙ c.loop-rule.invariant.none)
