use Rattle.std.proofs.Common.{◌≤◌, ◌-◌, arith, length, subst, sym, ◌∙◌, take}
use Rattle.std.proofs.Math.Nat.{min-le_left, min-le_right}
use Rattle.fork_wire.proofs.ReopeningLemmas.{fewer, first_sent, slice_sent}
use Rattle.fork_wire.proofs.reopening.write_upload.Goals as goal

pub loop-at-init : goal.loop-at-init
loop-at-init g c =
    let long = length c.args.bytes.now in
    record {
      within = subst (λ n. n ≤ long) (sym c.min-at.ensures) (min-le_left long 1048571);
      sending = first_sent _ (take c.min-at.result c.args.bytes.now) _ _ c.as_bytes-name.ensures.name
          (fewer c.min-at.result 1048571 c.args.bytes.now (subst (λ n. n ≤ 1048571) (sym c.min-at.ensures) (min-le_right long 1048571))) c.in_ok-write_part.ensures.bytes;
      rest = c.in_ok-write_part.ensures.rest;
    }

pub loop-at-preserved : goal.loop-at-preserved
loop-at-preserved g c =
    let left = length c.args.bytes.now - c.loop-at.at in
    let within = c.loop-at.invariant.within in
    let least = subst (λ n. n ≤ left) (sym c.min-next.ensures) (min-le_left left 1048571) in
    record {
      within = omega (arith, within, least);
      sending = slice_sent _ c.args.bytes.now c.loop-at.at c.min-next.result _ _ _ c.loop-at.invariant.sending c.as_bytes-name.ensures.name
          (subst (λ n. n ≤ 1048571) (sym c.min-next.ensures) (min-le_right left 1048571)) c.in_ok-write_part-2.ensures.bytes;
      rest = c.in_ok-write_part-2.ensures.rest ∙ c.loop-at.invariant.rest;
    }
