use Rattle.std.proofs.Common.{◌≤◌, ◌-◌, arith, length, subst, sym, ◌∙◌}
use Rattle.std.proofs.Math.Nat.{min-le_left, min-le_right}
use Rattle.std.proofs.lemmas.List.{take_all}
use Rattle.chained_log.proofs.WritingLemmas.{log_grown, next_more}
use Rattle.chained_log.proofs.writer.LogWriterSink.append.Goals as goal

pub loop-at-preserved : goal.loop-at-preserved
loop-at-preserved g c =
    let left = length c.args.bytes.now - c.loop-at.at in
    let within = c.loop-at.invariant.within in
    let least = subst (λ n. n ≤ left) (sym c.min-n.ensures) (min-le_left left 65536) in
    record {
      within = omega (arith, within, least);
      so_far = next_more c.args.bytes.now c.loop-at.at c.min-n.result _ _ _ _ _ _ c.loop-at.invariant.so_far (subst (λ n. n ≤ 65536) (sym c.min-n.ensures) (min-le_right left 65536)) c.in_ok-self.ensures.bytes c.in_ok-self.ensures.sum;
      rest = c.in_ok-self.ensures.rest ∙ c.loop-at.invariant.rest;
      first = c.loop-at.invariant.first;
      start = c.loop-at.invariant.start;
    }

pub returns-clause-bytes : goal.returns-clause-bytes
returns-clause-bytes g c =
    let past = c.loop-at-test.false in
    log_grown _ _ _ _ _ _ _ c.args.bytes.now _ _ c.loop-at.invariant.first c.loop-at.invariant.start c.loop-at.invariant.so_far (take_all c.loop-at.at c.args.bytes.now (omega (arith, past)))
