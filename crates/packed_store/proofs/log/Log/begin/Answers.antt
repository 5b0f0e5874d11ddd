use Rattle.std.proofs.Common.{rules, arith, ◌≤◌}
use Rattle.devices.specs.Device.{files_of}
use Rattle.packed_store.proofs.WithinLemmas.{within_later}
use Rattle.packed_store.proofs.log.Log.begin.Goals as goal

pub invariant_of-self-2 : goal.invariant_of-self-2
invariant_of-self-2 g c =
    let log = c.args.self.now in
    let so_far : log.unsynced ≤ log.segment = log.order in
    record {
      path_is = search rules;
      end_is = search rules;
      numbered = search rules;
      order = omega (arith, so_far, c.in_ok-segment.ensures.later);
      within = λ honest. within_later (files_of (g.D.Device.past log.device)) log.first log.segment c.in_ok-segment.segment c.in_ok-segment.ensures.later (log.within honest);
      ahead = λ n from some. log.ahead n (omega (arith, from, c.in_ok-segment.ensures.later)) some;
      begun = λ torn. c.in_ok-segment.ensures.begun;
      below = log.below;
      clean = λ clean. absurd (cc);
      known = λ clean. absurd (cc);
      named = λ named. absurd (cc);
    }
