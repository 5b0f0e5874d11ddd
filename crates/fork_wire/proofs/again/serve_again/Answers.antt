use Rattle.fork_wire.proofs.Reserving.{bad_again, clean_again, more_again, none_again}
use Rattle.fork_wire.proofs.again.serve_again.Goals as goal

pub loop-count-init : goal.loop-count-init
loop-count-init g c = record {
  trusted = λ trusted. trusted;
  orderly = c.invariant.ensures.whole.orderly;
  right = c.invariant.ensures.whole.right;
  so_far = none_again _ _;
}

pub loop-count-preserved : goal.loop-count-preserved
loop-count-preserved g c = record {
  trusted = λ trusted. c.answer_again.ensures.trusted (c.loop-count.invariant.trusted trusted);
  orderly = c.answer_again.ensures.orderly;
  right = λ trusted. c.answer_again.ensures.right (c.loop-count.invariant.trusted trusted);
  so_far =
      let frame = rw c.in-Ok-Frame.field-0-is at c.in-Ok-Frame.ensures.next in
      more_again _ _ _ _ _ _ _ c.in-Ok-Frame.frame c.loop-count.invariant.so_far frame.0 frame.1 c.in_ok-is_kept.ensures.ok;
}

pub returns-in-Ok-End-clause-again : goal.returns-in-Ok-End-clause-again
returns-in-Ok-End-clause-again g c =
    let next = rw c.in-Ok-End.field-0-is at c.in-Ok-End.ensures.next in
    clean_again _ _ _ _ _ c.loop-count.invariant.so_far next.1

pub returns-in-Ok-Bad-clause-again : goal.returns-in-Ok-Bad-clause-again
returns-in-Ok-Bad-clause-again g c =
    let next = rw c.in-Ok-Bad.field-0-is at c.in-Ok-Bad.ensures.next in
    bad_again _ _ _ _ _ c.loop-count.invariant.so_far next.bad

pub returns-in_err-is_kept-clause-right : goal.returns-in_err-is_kept-clause-right
returns-in_err-is_kept-clause-right g c trusted = c.answer_again.ensures.right (c.loop-count.invariant.trusted trusted)
