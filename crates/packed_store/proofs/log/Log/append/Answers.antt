use Rattle.std.proofs.Common.{rules, arith, ap, length, ◌≡◌, ◌<◌, ◌+◌, ◌^◌, sym, ◌∙◌}
use Rattle.devices.specs.Device.{files_of}
use Rattle.packed_store.proofs.LastingLemmas.{all_grown, end_grown, names_appended}
use Rattle.packed_store.proofs.WithinLemmas.{within_grown}
use Rattle.packed_store.proofs.log.Log.append.Goals as goal

pub invariant_of-self-in-Break-1 : goal.invariant_of-self-in-Break-1
invariant_of-self-in-Break-1 g c =
    let log = c.args.self.now in
    let small : log.segment < 2 ^ 64 = search rules in
    record {
      path_is = search rules;
      end_is = search rules;
      numbered = search rules;
      order = search rules;
      within = λ honest.
          let then = sym c.append_to.ensures.honest ∙ honest in
          within_grown log.segment log.first c.as_str.result.now c.as_slice.result.now (g.D.Device.past log.device) (g.D.Device.past c.append_to.new.device) c.append_to.result
          (c.as_str.ensures.value ∙ log.path_is c.requires) small (log.ahead log.segment (omega arith) (log.begun c.requires)) (c.append_to.ensures.effect then) (log.within then);
      ahead = search rules;
      begun = search rules;
      below = λ honest.
          let then = sym c.append_to.ensures.honest ∙ honest in
          all_grown log.segment log.first log.unsynced c.as_str.result.now c.as_slice.result.now (g.D.Device.past log.device) (g.D.Device.past c.append_to.new.device) c.append_to.result
          (c.as_str.ensures.value ∙ log.path_is c.requires) small log.order (c.append_to.ensures.effect then) (log.below then);
      clean = λ clean. absurd (cc);
      known = λ clean. absurd (cc);
      named = λ marked honest.
          let then = sym c.append_to.ensures.honest ∙ honest in
          names_appended log.segment log.end log.is_new c.as_str.result.now c.as_slice.result.now (g.D.Device.past log.device) (g.D.Device.past c.append_to.new.device) c.append_to.result
          (c.as_str.ensures.value ∙ log.path_is c.requires) (c.append_to.ensures.effect then) (log.end_is c.requires then) marked (λ known. log.named known then);
    }

pub invariant_of-self-2 : goal.invariant_of-self-2
invariant_of-self-2 g c =
    let log = c.args.self.now in
    let small : log.segment < 2 ^ 64 = search rules in
    let sized : c.in-Ok.size ≡ length log.room.items = search rules in
    let counted : c.in-Some.end ≡ log.end + c.in-Ok.size = search rules in
    record {
      path_is = search rules;
      end_is = λ torn honest.
          let then = sym c.append_to.ensures.honest ∙ honest in
          end_grown log.segment log.end c.in-Some.end c.as_str.result.now c.as_slice.result.now (files_of (g.D.Device.past log.device)) (files_of (g.D.Device.past c.append_to.new.device))
          (c.as_str.ensures.value ∙ log.path_is c.requires) (c.in_ok-append_to.ensures.added then) (log.end_is c.requires then) (counted ∙ ap (λ n. log.end + n) (sized ∙ ap length (sym c.as_slice.ensures.value)));
      numbered = search rules;
      order = search rules;
      within = λ honest.
          let then = sym c.append_to.ensures.honest ∙ honest in
          within_grown log.segment log.first c.as_str.result.now c.as_slice.result.now (g.D.Device.past log.device) (g.D.Device.past c.append_to.new.device) c.append_to.result
          (c.as_str.ensures.value ∙ log.path_is c.requires) small (log.ahead log.segment (omega arith) (log.begun c.requires)) (c.append_to.ensures.effect then) (log.within then);
      ahead = search rules;
      begun = search rules;
      below = λ honest.
          let then = sym c.append_to.ensures.honest ∙ honest in
          all_grown log.segment log.first log.unsynced c.as_str.result.now c.as_slice.result.now (g.D.Device.past log.device) (g.D.Device.past c.append_to.new.device) c.append_to.result
          (c.as_str.ensures.value ∙ log.path_is c.requires) small log.order (c.append_to.ensures.effect then) (log.below then);
      clean = λ clean. absurd (cc);
      known = λ clean. absurd (cc);
      named = λ marked honest.
          let then = sym c.append_to.ensures.honest ∙ honest in
          names_appended log.segment log.end log.is_new c.as_str.result.now c.as_slice.result.now (g.D.Device.past log.device) (g.D.Device.past c.append_to.new.device) c.append_to.result
          (c.as_str.ensures.value ∙ log.path_is c.requires) (c.append_to.ensures.effect then) (log.end_is c.requires then) marked (λ known. log.named known then);
    }
