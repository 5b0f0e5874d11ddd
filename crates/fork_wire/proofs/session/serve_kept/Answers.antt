use Rattle.std.proofs.Common.{refl, ◌∙◌}
use Rattle.std.proofs.lemmas.Result.{err_from_is_err_and}
use Rattle.fork_wire.proofs.Ending.{at_end, at_fault, bad_end, clean_end, served_alone, spent, stopped_alone, stopped_kept, unread, untold}
use Rattle.fork_wire.proofs.Going.{going_more, not_yet, unsent, unsent_kept}
use Rattle.fork_wire.proofs.session.serve_kept.Goals as goal

pub loop-init : goal.loop-init
loop-init g c = record {
  trusted = λ trusted. trusted;
  orderly = c.invariant.ensures.whole.orderly;
  right = c.invariant.ensures.whole.right;
  going = not_yet _ _ _ _;
  synced = λ synced. synced;
  whole = refl;
}

pub loop-preserved : goal.loop-preserved
loop-preserved g c = record {
  trusted = λ trusted. c.answer_kept-reply.ensures.step.honest ∙ c.loop.invariant.trusted trusted;
  orderly = c.answer_kept-reply.ensures.step.whole.orderly;
  right = λ trusted. c.answer_kept-reply.ensures.step.whole.right (c.answer_kept-reply.ensures.step.honest ∙ c.loop.invariant.trusted trusted);
  going =
      let frame = rw c.in-Ok-Frame.field-0-is at c.in-Ok-Frame.ensures.next in
      going_more _ _ _ _ _ _ _ _ _ _ _ _ c.in-Ok-Frame.frame c.answer_kept-reply.result.0 c.loop.invariant.going frame.0 frame.1 c.answer_kept-reply.ensures.step c.in_ok-send_kept.ensures.ok
      (c.answer_kept-reply.ensures.kept c.in_ok-send_kept.ensures.kept);
  synced = λ synced. c.answer_kept-reply.ensures.synced c.in_ok-send_kept.ensures.kept (c.loop.invariant.synced synced);
  whole = c.answer_kept-reply.ensures.whole c.in_ok-send_kept.ensures.kept ∙ c.loop.invariant.whole;
}

pub returns-in-Ok-End-clause-kept : goal.returns-in-Ok-End-clause-kept
returns-in-Ok-End-clause-kept g c =
    let next = rw c.in-Ok-End.field-0-is at c.in-Ok-End.ensures.next in
    clean_end _ _ _ _ _ _ _ _ c.loop.invariant.going next.1

pub returns-in-Ok-Bad-clause-kept : goal.returns-in-Ok-Bad-clause-kept
returns-in-Ok-Bad-clause-kept g c =
    let next = rw c.in-Ok-Bad.field-0-is at c.in-Ok-Bad.ensures.next in
    bad_end _ _ _ _ _ _ _ _ _ c.end_badly.result c.loop.invariant.going next.bad c.end_badly.ensures.ok

pub returns-in-Ok-End-clause-served : goal.returns-in-Ok-End-clause-served
returns-in-Ok-End-clause-served g c =
    let next = rw c.in-Ok-End.field-0-is at c.in-Ok-End.ensures.next in
    (clean_end _ _ _ _ _ _ _ _ c.loop.invariant.going next.1).0

pub returns-in-Ok-Bad-clause-served : goal.returns-in-Ok-Bad-clause-served
returns-in-Ok-Bad-clause-served g c =
    let next = rw c.in-Ok-Bad.field-0-is at c.in-Ok-Bad.ensures.next in
    served_alone _ _ _ _ _ _ _ c.end_badly.result (bad_end _ _ _ _ _ _ _ _ _ c.end_badly.result c.loop.invariant.going next.bad c.end_badly.ensures.ok)

pub returns-in-Ok-Bad-clause-stopped : goal.returns-in-Ok-Bad-clause-stopped
returns-in-Ok-Bad-clause-stopped g c =
    let next = rw c.in-Ok-Bad.field-0-is at c.in-Ok-Bad.ensures.next in
    stopped_alone _ _ _ _ _ _ _ c.end_badly.result (untold _ _ _ _ _ _ _ _ _ c.end_badly.result c.loop.invariant.going next.bad c.end_badly.ensures.cause c.end_badly.ensures.broken)

pub returns-in-Ok-Bad-clause-kept_so_far : goal.returns-in-Ok-Bad-clause-kept_so_far
returns-in-Ok-Bad-clause-kept_so_far g c =
    let next = rw c.in-Ok-Bad.field-0-is at c.in-Ok-Bad.ensures.next in
    stopped_kept _ _ _ _ _ _ _ c.end_badly.result (untold _ _ _ _ _ _ _ _ _ c.end_badly.result c.loop.invariant.going next.bad c.end_badly.ensures.cause c.end_badly.ensures.broken)

pub returns-in-Err-clause-kept_so_far : goal.returns-in-Err-clause-kept_so_far
returns-in-Err-clause-kept_so_far g c other =
    unread _ _ _ _ _ _ _ _ c.of_frame.result c.loop.invariant.going c.of_frame.ensures.read c.of_frame.ensures.kept (λ is. c.in-Err.ensures.memory (c.of_frame.ensures.memory is))

pub returns-in-Err-clause-stopped : goal.returns-in-Err-clause-stopped
returns-in-Err-clause-stopped g c =
    (unread _ _ _ _ _ _ _ _ c.of_frame.result c.loop.invariant.going c.of_frame.ensures.read c.of_frame.ensures.kept (λ is. c.in-Err.ensures.memory (c.of_frame.ensures.memory is))).0

pub returns-in_err-send_kept-clause-stopped : goal.returns-in_err-send_kept-clause-stopped
returns-in_err-send_kept-clause-stopped g c =
    let frame = rw c.in-Ok-Frame.field-0-is at c.in-Ok-Frame.ensures.next in
    let told = err_from_is_err_and c.from_residual.result c.from_residual.ensures.1 in
    rw (told.1, told.2) (unsent _ _ _ _ _ _ _ _ _ _ _ c.in-Ok-Frame.frame c.answer_kept-reply.result.0 _ c.loop.invariant.going frame.0 frame.1 c.answer_kept-reply.ensures.step
    c.in_err-send_kept.ensures.sent c.in_err-send_kept.ensures.unsent c.in_err-send_kept.ensures.broken)

pub returns-in_err-send_kept-clause-right : goal.returns-in_err-send_kept-clause-right
returns-in_err-send_kept-clause-right g c trusted = c.answer_kept-reply.ensures.step.whole.right (c.answer_kept-reply.ensures.step.honest ∙ c.loop.invariant.trusted trusted)

pub returns-in_err-send_kept-clause-kept_so_far : goal.returns-in_err-send_kept-clause-kept_so_far
returns-in_err-send_kept-clause-kept_so_far g c =
    let frame = rw c.in-Ok-Frame.field-0-is at c.in-Ok-Frame.ensures.next in
    let told = err_from_is_err_and c.from_residual.result c.from_residual.ensures.1 in
    rw (told.1, told.2) (λ other. unsent_kept _ _ _ _ _ _ _ _ _ _ _ _ c.in-Ok-Frame.frame c.answer_kept-reply.result.0 _ c.loop.invariant.going frame.0 frame.1 c.answer_kept-reply.ensures.step
    c.in_err-send_kept.ensures.sent c.in_err-send_kept.ensures.unsent c.in_err-send_kept.ensures.broken (c.answer_kept-reply.ensures.kept (c.in_err-send_kept.ensures.was_kept other)))

pub returns-clause-kept_so_far : goal.returns-clause-kept_so_far
returns-clause-kept_so_far g c other = spent _ _ _ _ _ _ _ _ c.loop.invariant.going

pub returns-clause-stopped : goal.returns-clause-stopped
returns-clause-stopped g c = (spent _ _ _ _ _ _ _ _ c.loop.invariant.going).0

pub returns-in-Ok-End-clause-synced : goal.returns-in-Ok-End-clause-synced
returns-in-Ok-End-clause-synced g c = c.loop.invariant.synced

pub returns-in-Ok-Bad-clause-synced : goal.returns-in-Ok-Bad-clause-synced
returns-in-Ok-Bad-clause-synced g c = at_end _ c.end_badly.result c.loop.invariant.synced

pub returns-in-Ok-Bad-clause-synced_so_far : goal.returns-in-Ok-Bad-clause-synced_so_far
returns-in-Ok-Bad-clause-synced_so_far g c = at_fault _ c.end_badly.result c.loop.invariant.synced

pub returns-in-Err-clause-synced_so_far : goal.returns-in-Err-clause-synced_so_far
returns-in-Err-clause-synced_so_far g c other = c.loop.invariant.synced

pub returns-in_err-send_kept-clause-synced_so_far : goal.returns-in_err-send_kept-clause-synced_so_far
returns-in_err-send_kept-clause-synced_so_far g c =
    let told = err_from_is_err_and c.from_residual.result c.from_residual.ensures.1 in
    rw (told.1, told.2) (λ other synced. c.answer_kept-reply.ensures.synced (c.in_err-send_kept.ensures.was_kept other) (c.loop.invariant.synced synced))

pub returns-clause-synced_so_far : goal.returns-clause-synced_so_far
returns-clause-synced_so_far g c other = c.loop.invariant.synced
