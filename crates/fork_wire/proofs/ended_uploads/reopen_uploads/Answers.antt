use Rattle.std.proofs.Common.{arith}
use Rattle.fork_wire.proofs.Reserving.{at_most_one, clean_again, none_again, one_or_none}
use Rattle.fork_wire.proofs.ended_uploads.reopen_uploads.Goals as goal

pub loop-init : goal.loop-init
loop-init g c = record {
  trusted = λ trusted. trusted;
  orderly = c.invariant.ensures.whole.orderly;
  right = c.invariant.ensures.whole.right;
  bound = omega arith;
  so_far = none_again _ _;
}

pub loop-preserved : goal.loop-preserved
loop-preserved g c = record {
  trusted = λ trusted. c.reopen_by.ensures.trusted (c.loop.invariant.trusted trusted);
  orderly = c.reopen_by.ensures.orderly;
  right = λ trusted. c.reopen_by.ensures.right (c.loop.invariant.trusted trusted);
  bound = (let more = at_most_one c.in_ok-repeated.repeated c.in_ok-repeated.ensures.ok in let total = c.saturating_add-count.ensures in let bound = c.loop.invariant.bound in omega (arith, more, total, bound));
  so_far =
      let frame = rw c.in-Ok-Frame.field-0-is at c.in-Ok-Frame.ensures.next in
      one_or_none _ _ _ _ _ _ c.in-Ok-Frame.frame c.loop.invariant.so_far frame.0 c.in_ok-repeated.ensures.ok
      (let more = at_most_one c.in_ok-repeated.repeated c.in_ok-repeated.ensures.ok in let total = c.saturating_add-count.ensures in let bound = c.loop.invariant.bound in let turn = c.loop-test.true in omega (arith, more, total, bound, turn));
}

pub returns-in-Ok-End-clause-again : goal.returns-in-Ok-End-clause-again
returns-in-Ok-End-clause-again g c = clean_again _ _ _ _ _ c.loop.invariant.so_far tt

pub returns-in-Ok-Bad-clause-again : goal.returns-in-Ok-Bad-clause-again
returns-in-Ok-Bad-clause-again g c = clean_again _ _ _ _ _ c.loop.invariant.so_far tt

pub returns-in_err-repeated-clause-right : goal.returns-in_err-repeated-clause-right
returns-in_err-repeated-clause-right g c trusted = c.reopen_by.ensures.right (c.loop.invariant.trusted trusted)
