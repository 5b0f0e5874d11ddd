use Rattle.std.proofs.Common.{◌+◌, ◌∙◌, arith}
use Rattle.packed_store.proofs.LastingLemmas.{sure_joined, sure_one}
use Rattle.packed_store.proofs.SureLemmas.{all_narrowed, narrows_on}
use Rattle.packed_store.proofs.syncs.sync_below.Goals as goal

pub returns-in_err-sync_segment-clause-narrows : goal.returns-in_err-sync_segment-clause-narrows
returns-in_err-sync_segment-clause-narrows g c honest =
    let so_far = c.loop-segment.invariant in
    narrows_on (g.D.Device.past c.args.device.now) (g.D.Device.past c.loop-segment.device) (g.D.Device.past c.sync_segment.new.device)
    (so_far.2 honest) (c.sync_segment.ensures.narrows (so_far.0 ∙ honest))

pub loop-segment-preserved : goal.loop-segment-preserved
loop-segment-preserved g c =
    let so_far = c.loop-segment.invariant in
    let mid = g.D.Device.past c.loop-segment.device in
    let new = g.D.Device.past c.sync_segment.new.device in
    let at = c.loop-segment.segment in (
      c.sync_segment.ensures.honest ∙ so_far.0,
      (λ honest. c.sync_segment.ensures.files (so_far.0 ∙ honest) ∙ so_far.1 honest),
      (λ honest. narrows_on (g.D.Device.past c.args.device.now) mid new (so_far.2 honest) (c.sync_segment.ensures.narrows (so_far.0 ∙ honest))),
      (λ honest none. c.in_ok-sync_segment.ensures.unfailed (so_far.0 ∙ honest) (so_far.3 honest none)),
      (λ honest none.
          (let less = c.sync_segment.ensures.narrows (so_far.0 ∙ honest) in
          sure_joined new c.args.from at (at + 1) (all_narrowed mid new c.args.from at less (so_far.4 honest (less.unfailed none)))
          (sure_one new at (c.in_ok-sync_segment.ensures.sure (so_far.0 ∙ honest) none)))),
    )

pub returns-clause-sure : goal.returns-clause-sure
returns-clause-sure g c honest none n from below = c.loop-segment.invariant.4 honest none n from (omega (arith, below, c.loop-segment-test.false))
