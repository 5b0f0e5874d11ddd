use Rattle.std.proofs.Common.{rules, arith, codes, ◌+◌, sym, ◌∙◌}
use Rattle.packed_store.proofs.LastingLemmas.{all_after, names_later, sure_joined, sure_one}
use Rattle.devices.specs.Device.{files_of}
use Rattle.packed_store.proofs.WithinLemmas.{within_as}
use Rattle.packed_store.proofs.log.Log.sync_ahead.Goals as goal

pub invariant_of-self : goal.invariant_of-self
invariant_of-self g c =
    let log = c.args.self.now in
    record {
      path_is = search rules;
      end_is = search rules;
      numbered = search rules;
      order = search rules;
      within = λ honest.
          let then = sym c.sync_segment.ensures.honest ∙ honest in
          within_as (files_of (g.D.Device.past log.device)) (files_of (g.D.Device.past c.sync_segment.new.device)) log.first log.segment (c.sync_segment.ensures.files then) (log.within then);
      ahead = search rules;
      begun = search rules;
      below = λ honest.
          let then = sym c.sync_segment.ensures.honest ∙ honest in
          all_after (g.D.Device.past log.device) (g.D.Device.past c.sync_segment.new.device) log.first log.unsynced (c.sync_segment.ensures.narrows then) (log.below then);
      clean = λ clean honest.
          let then = sym c.sync_segment.ensures.honest ∙ honest in
          all_after (g.D.Device.past log.device) (g.D.Device.past c.sync_segment.new.device) log.first (log.segment + 1) (c.sync_segment.ensures.narrows then) (log.clean clean then);
      known = search rules;
      named = λ named honest.
          let then = sym c.sync_segment.ensures.honest ∙ honest in
          names_later (codes "segments/") (g.D.Device.past log.device) (g.D.Device.past c.sync_segment.new.device) (c.sync_segment.ensures.narrows then) (log.named named then);
    }

pub invariant_of-self-2 : goal.invariant_of-self-2
invariant_of-self-2 g c =
    let log = c.args.self.now in
    record {
      path_is = search rules;
      end_is = search rules;
      numbered = search rules;
      order = omega (arith, c.if-segment-self.false);
      within = λ honest.
          let then = sym c.sync_segment.ensures.honest ∙ honest in
          within_as (files_of (g.D.Device.past log.device)) (files_of (g.D.Device.past c.sync_segment.new.device)) log.first log.segment (c.sync_segment.ensures.files then) (log.within then);
      ahead = search rules;
      begun = search rules;
      below = λ honest none.
          let then = sym c.sync_segment.ensures.honest ∙ honest in
          let new = g.D.Device.past c.sync_segment.new.device in
          sure_joined new log.first log.unsynced (log.unsynced + 1) (all_after (g.D.Device.past log.device) new log.first log.unsynced (c.sync_segment.ensures.narrows then) (log.below then) none) (sure_one new log.unsynced (c.in_default.ensures.sure then none));
      clean = λ clean honest.
          let then = sym c.sync_segment.ensures.honest ∙ honest in
          all_after (g.D.Device.past log.device) (g.D.Device.past c.sync_segment.new.device) log.first (log.segment + 1) (c.sync_segment.ensures.narrows then) (log.clean clean then);
      known = search rules;
      named = λ named honest.
          let then = sym c.sync_segment.ensures.honest ∙ honest in
          names_later (codes "segments/") (g.D.Device.past log.device) (g.D.Device.past c.sync_segment.new.device) (c.sync_segment.ensures.narrows then) (log.named named then);
    }
