use Rattle.std.proofs.Common.{rules, ◌<◌, ◌^◌, arith, refl, sym, ◌∙◌}
use Rattle.devices.specs.Device.{files_of}
use Rattle.packed_store.proofs.LastingLemmas.{all_taken}
use Rattle.packed_store.proofs.RemovalLemmas.{end_kept, segments_kept}
use Rattle.packed_store.proofs.WithinLemmas.{within_behind, within_less}
use Rattle.packed_store.proofs.log.Log.remove_segment.Goals as goal

pub invariant_of-self : goal.invariant_of-self
invariant_of-self g c = record {
  path_is = search rules;
  end_is = λ torn honest.
      let first = sym c.remove_at.ensures.honest ∙ honest in
      let small : c.args.self.now.segment < 2 ^ 64 = search rules in
      end_kept c.args.segment c.args.self.now.segment c.args.self.now.end c.as_str-2.result.now
      (files_of (g.D.Device.past c.args.self.now.device)) (files_of (g.D.Device.past c.args.self.now.device)) (files_of (g.D.Device.past c.remove_at.new.device))
      (omega (arith, c.if-segment-self.false)) small (c.as_str-2.ensures.value ∙ c.in_ok-path.ensures) refl
      (c.remove_at.ensures.others first) (search rules);
  numbered = search rules;
  order = search rules;
  within = λ honest.
      let first = sym c.remove_at.ensures.honest ∙ honest in
      let log = c.args.self.now in
      within_less c.as_str-2.result.now log.first log.segment (g.D.Device.past log.device) (g.D.Device.past c.remove_at.new.device) c.remove_at.result (c.remove_at.ensures.effect first) (log.within first);
  ahead = search rules;
  begun = search rules;
  below = λ honest.
      let first = sym c.remove_at.ensures.honest ∙ honest in
      let log = c.args.self.now in
      all_taken log.first log.unsynced log.first c.as_str-2.result.now (g.D.Device.past log.device) (g.D.Device.past c.remove_at.new.device) c.remove_at.result (c.remove_at.ensures.effect first) (omega arith)
      (log.below first);
  clean = λ clean. absurd (cc);
  known = λ clean. absurd (cc);
  named = λ named. absurd (cc);
}

pub invariant_of-self-2 : goal.invariant_of-self-2
invariant_of-self-2 g c = record {
  path_is = search rules;
  end_is = λ torn honest.
      let first = sym c.remove_at.ensures.honest ∙ honest in
      let small : c.args.self.now.segment < 2 ^ 64 = search rules in
      end_kept c.args.segment c.args.self.now.segment c.args.self.now.end c.as_str-2.result.now
      (files_of (g.D.Device.past c.args.self.now.device)) (files_of (g.D.Device.past c.args.self.now.device)) (files_of (g.D.Device.past c.remove_at.new.device))
      (omega (arith, c.if-segment-self.false)) small (c.as_str-2.ensures.value ∙ c.in_ok-path.ensures) refl
      (c.remove_at.ensures.others first) (search rules);
  numbered = search rules;
  order = search rules;
  within = λ honest.
      let first = sym c.remove_at.ensures.honest ∙ honest in
      let log = c.args.self.now in
      within_behind log.first log.segment _ c.as_str-2.result.now (g.D.Device.past log.device) (g.D.Device.past c.remove_at.new.device) (search rules) (search rules) (search rules) (log.within first);
  ahead = search rules;
  begun = search rules;
  below = λ honest.
      let first = sym c.remove_at.ensures.honest ∙ honest in
      let log = c.args.self.now in
      all_taken log.first log.unsynced _ c.as_str-2.result.now (g.D.Device.past log.device) (g.D.Device.past c.remove_at.new.device) c.remove_at.result (c.remove_at.ensures.effect first) (search rules)
      (log.below first);
  clean = λ clean. absurd (cc);
  known = λ clean. absurd (cc);
  named = λ named. absurd (cc);
}

pub returns-in_err-remove_at-clause-others : goal.returns-in_err-remove_at-clause-others
returns-in_err-remove_at-clause-others g c honest =
    let small : c.args.segment < 2 ^ 64 = omega (arith, c.ranges.segment.fits) in
    segments_kept c.args.segment c.as_str-2.result.now (files_of (g.D.Device.past c.args.self.now.device)) (files_of (g.D.Device.past c.remove_at.new.device)) small
    (c.as_str-2.ensures.value ∙ c.in_ok-path.ensures)
    (c.remove_at.ensures.others honest)

pub returns-clause-others : goal.returns-clause-others
returns-clause-others g c honest =
    let small : c.args.segment < 2 ^ 64 = omega (arith, c.ranges.segment.fits) in
    segments_kept c.args.segment c.as_str-2.result.now (files_of (g.D.Device.past c.args.self.now.device)) (files_of (g.D.Device.past c.remove_at.new.device)) small
    (c.as_str-2.ensures.value ∙ c.in_ok-path.ensures)
    (c.remove_at.ensures.others honest)
