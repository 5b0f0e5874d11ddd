use Rattle.std.proofs.Common.{◌≡◌, arith}
use Rattle.devices.specs.Device.{files_of}
use Rattle.packed_store.specs.Place.{segment_of}
use Rattle.packed_store.specs.Taking.{Begun, seen_in}
use Rattle.packed_store.proofs.JoinLemmas.{reads_all, reads_next, reads_to_end}
use Rattle.packed_store.proofs.survey.survey_bytes.Goals as goal

pub loop-at-init : goal.loop-at-init
loop-at-init g c = (omega arith, (λ honest all. all), (λ honest. Begun))

pub returns-then-taken-eq0-clause-reads : goal.returns-then-taken-eq0-clause-reads
returns-then-taken-eq0-clause-reads g c honest counted =
    let whole = segment_of (files_of (g.D.Device.past c.args.device.now)) c.args.segment in
    let mid = seen_in c.loop-at.found.live.entries c.loop-at.found.pending.entries c.loop-at.found.is_damaged in
    let new = seen_in c.take_next.new.found.live.entries c.take_next.new.found.pending.entries c.take_next.new.found.is_damaged in
    let none : c.in_ok-taken.taken ≡ 0 = omega (arith, c.if-taken-eq0.true) in
    reads_all whole c.args.segment _ mid new c.loop-at.at c.in_ok-taken.taken (c.loop-at.invariant.2 honest) (c.in_ok-taken.ensures.reads honest) none (c.in_ok-taken.ensures.ends honest counted none)

pub loop-at-preserved : goal.loop-at-preserved
loop-at-preserved g c =
    let so_far = c.loop-at.invariant in
    let whole = segment_of (files_of (g.D.Device.past c.args.device.now)) c.args.segment in
    let mid = seen_in c.loop-at.found.live.entries c.loop-at.found.pending.entries c.loop-at.found.is_damaged in
    let new = seen_in c.take_next.new.found.live.entries c.take_next.new.found.pending.entries c.take_next.new.found.is_damaged in (
      c.in_ok-taken.ensures.within,
      (λ honest all. c.in_ok-taken.ensures.written honest (so_far.1 honest all)),
      (λ honest. reads_next whole c.args.segment _ mid new c.loop-at.at c.in_ok-taken.taken (so_far.2 honest) (c.in_ok-taken.ensures.reads honest)),
    )

pub returns-clause-reads : goal.returns-clause-reads
returns-clause-reads g c honest counted =
    reads_to_end (segment_of (files_of (g.D.Device.past c.args.device.now)) c.args.segment) c.args.segment _ _ c.loop-at.at (c.loop-at.invariant.2 honest) (omega (arith, counted, c.loop-at-test.false))
