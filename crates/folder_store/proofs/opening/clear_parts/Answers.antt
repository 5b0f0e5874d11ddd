use Rattle.std.proofs.Common.{◌∙◌, refl}
use Rattle.devices.specs.Device.{files_of}
use Rattle.folder_store.proofs.OpeningLemmas.{last_then}
use Rattle.folder_store.proofs.SweptLemmas.{alike_then}
use Rattle.folder_store.proofs.opening.clear_parts.Goals as goal

pub loop-first-init : goal.loop-first-init
loop-first-init g c =
    let a = g.D.Device.past c.args.device.now in
    let b = g.D.Device.past c.remove_part.new.device in
    let d = g.D.Device.past c.remove_part-2.new.device in (
      (λ honest. last_then a b d (c.in_ok-remove_part.ensures.lasts honest refl refl) (c.in_ok-remove_part-2.ensures.lasts (c.in_ok-remove_part.ensures.honest ∙ honest) refl refl)),
      (λ honest. alike_then (files_of a) (files_of b) (files_of d) (c.in_ok-remove_part.ensures.alike honest refl refl) (c.in_ok-remove_part-2.ensures.alike (c.in_ok-remove_part.ensures.honest ∙ honest) refl refl)),
      c.in_ok-remove_part-2.ensures.honest ∙ c.in_ok-remove_part.ensures.honest,
    )

pub loop-first-preserved : goal.loop-first-preserved
loop-first-preserved g c =
    let a = g.D.Device.past c.args.device.now in
    let b = g.D.Device.past c.loop-first.device in
    let d = g.D.Device.past c.clear_home.new.device in (
      (λ honest. last_then a b d (c.loop-first.invariant.0 honest) (c.in_ok-clear_home.ensures.lasts (c.loop-first.invariant.2 ∙ honest))),
      (λ honest. alike_then (files_of a) (files_of b) (files_of d) (c.loop-first.invariant.1 honest) (c.in_ok-clear_home.ensures.alike (c.loop-first.invariant.2 ∙ honest))),
      c.in_ok-clear_home.ensures.honest ∙ c.loop-first.invariant.2,
    )

pub returns-in_ok-clear_home-clause-lasts : goal.returns-in_ok-clear_home-clause-lasts
returns-in_ok-clear_home-clause-lasts g c honest =
    last_then (g.D.Device.past c.args.device.now) (g.D.Device.past c.loop-first.device) (g.D.Device.past c.clear_home.new.device) (c.loop-first.invariant.0 honest) (c.in_ok-clear_home.ensures.lasts (c.loop-first.invariant.2 ∙ honest))
