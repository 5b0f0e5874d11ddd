use Rattle.std.proofs.Common.{rules, subst, sym, ◌∙◌, ◌+◌, ℕ}
use Rattle.packed_store.specs.Lasting.{AreSure}
use Rattle.packed_store.proofs.LastingLemmas.{all_after}
use Rattle.packed_store.proofs.log.Log.sync.Goals as goal

pub invariant_of-self : goal.invariant_of-self
invariant_of-self g c =
    let mid = c.sync_segments.new.self in
    let log = c.sync_new.new.self in
    let new = g.D.Device.past log.device in
    record {
      path_is = search rules;
      end_is = search rules;
      numbered = search rules;
      order = search rules;
      within = search rules;
      ahead = search rules;
      begun = search rules;
      below = search rules;
      clean = λ clean honest none.
          let later = sym c.sync_new.ensures.honest ∙ honest in
          let then = sym c.sync_segments.ensures.honest ∙ later in
          subst (λ (n : ℕ). AreSure new n (log.segment + 1)) (sym c.sync_new.ensures.first)
          (subst (λ (n : ℕ). AreSure new mid.first (n + 1)) (sym c.sync_new.ensures.segment)
          (all_after (g.D.Device.past mid.device) new mid.first (mid.segment + 1) (c.sync_new.ensures.narrows later) (c.in_ok-sync_segments.ensures.sure then) none));
      known = λ clean. c.in_ok-sync_new.ensures.named;
      named = search rules;
    }
