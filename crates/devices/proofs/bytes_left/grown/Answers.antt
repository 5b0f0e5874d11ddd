use Rattle.std.proofs.Common.{inr}
use Rattle.devices.proofs.ByteLemmas.{front_from, split_prefix, whole_from}
use Rattle.devices.proofs.bytes_left.grown.Goals as goal

pub returns-in_default-fate-clause-may : goal.returns-in_default-fate-clause-may
returns-in_default-fate-clause-may c =
    inr (whole_from c.args.left.items c.args.whole.now c.in-Some.more.now _ (split_prefix c.args.left.items c.as_slice.result.now c.args.whole.now c.in-Some.more.now c.as_slice.ensures.value c.in-Some.ensures.cases.0 c.in-Some.ensures.cases.1) c.in_ok-extend_from_slice.ensures.items)

pub returns-clause-may : goal.returns-clause-may
returns-clause-may c =
    inr (front_from c.args.left.items c.args.whole.now c.in-Some.more.now _ _ (split_prefix c.args.left.items c.as_slice.result.now c.args.whole.now c.in-Some.more.now c.as_slice.ensures.value c.in-Some.ensures.cases.0 c.in-Some.ensures.cases.1) c.in_ok-extend_from_slice-2.ensures.items)
