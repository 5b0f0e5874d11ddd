use Rattle.std.proofs.Common.{rules, codes, ◌+◌, sym, ◌∙◌}
use Rattle.packed_store.proofs.LastingLemmas.{all_after, all_synced, fewer_sure, names_later}
use Rattle.devices.specs.Device.{files_of}
use Rattle.packed_store.proofs.WithinLemmas.{within_as}
use Rattle.packed_store.proofs.log.Log.sync_segments.Goals as goal

pub invariant_of-self : goal.invariant_of-self
invariant_of-self g c =
    let log = c.args.self.now in
    record {
      path_is = search rules;
      end_is = search rules;
      numbered = search rules;
      order = search rules;
      within = λ honest.
          let then = sym c.sync_through.ensures.honest ∙ honest in
          within_as (files_of (g.D.Device.past log.device)) (files_of (g.D.Device.past c.sync_through.new.device)) log.first log.segment (c.sync_through.ensures.files then) (log.within then);
      ahead = search rules;
      begun = search rules;
      below = λ honest.
          let then = sym c.sync_through.ensures.honest ∙ honest in
          all_after (g.D.Device.past log.device) (g.D.Device.past c.sync_through.new.device) log.first log.unsynced (c.sync_through.ensures.narrows then) (log.below then);
      clean = λ clean honest.
          let then = sym c.sync_through.ensures.honest ∙ honest in
          all_after (g.D.Device.past log.device) (g.D.Device.past c.sync_through.new.device) log.first (log.segment + 1) (c.sync_through.ensures.narrows then) (log.clean clean then);
      known = search rules;
      named = λ named honest.
          let then = sym c.sync_through.ensures.honest ∙ honest in
          names_later (codes "segments/") (g.D.Device.past log.device) (g.D.Device.past c.sync_through.new.device) (c.sync_through.ensures.narrows then) (log.named named then);
    }

pub invariant_of-self-2 : goal.invariant_of-self-2
invariant_of-self-2 g c =
    let log = c.args.self.now in
    record {
      path_is = search rules;
      end_is = search rules;
      numbered = search rules;
      order = search rules;
      within = λ honest.
          let then = sym c.sync_through.ensures.honest ∙ honest in
          within_as (files_of (g.D.Device.past log.device)) (files_of (g.D.Device.past c.sync_through.new.device)) log.first log.segment (c.sync_through.ensures.files then) (log.within then);
      ahead = search rules;
      begun = search rules;
      below = λ honest none.
          let then = sym c.sync_through.ensures.honest ∙ honest in
          let new = g.D.Device.past c.sync_through.new.device in
          fewer_sure new log.first log.segment (all_synced (g.D.Device.past log.device) new log.first log.unsynced c.max.result (log.segment + 1) log.numbered c.max.ensures (c.sync_through.ensures.narrows then) (log.below then) (c.in_ok-sync_through.ensures.sure then) none);
      clean = λ clean honest.
          let then = sym c.sync_through.ensures.honest ∙ honest in
          let new = g.D.Device.past c.sync_through.new.device in
          all_synced (g.D.Device.past log.device) new log.first log.unsynced c.max.result (log.segment + 1) log.numbered c.max.ensures (c.sync_through.ensures.narrows then) (log.below then) (c.in_ok-sync_through.ensures.sure then);
      known = search rules;
      named = λ named honest.
          let then = sym c.sync_through.ensures.honest ∙ honest in
          names_later (codes "segments/") (g.D.Device.past log.device) (g.D.Device.past c.sync_through.new.device) (c.sync_through.ensures.narrows then) (log.named named then);
    }

pub returns-clause-sure : goal.returns-clause-sure
returns-clause-sure g c honest =
    let log = c.args.self.now in
    all_synced (g.D.Device.past log.device) (g.D.Device.past c.sync_through.new.device) log.first log.unsynced c.max.result (log.segment + 1) log.numbered c.max.ensures (c.sync_through.ensures.narrows honest) (log.below honest) (c.in_ok-sync_through.ensures.sure honest)
