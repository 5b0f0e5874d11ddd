use Rattle.std.proofs.Common.{◌<◌, ◌+◌, ℕ, ◌∷◌, List, length, drop, refl, sym, ap, ◌∙◌, arith}
use Rattle.std.proofs.lemmas.List.{drop_more}
use Rattle.devices.specs.Device.{files_of}
use Rattle.git_name.specs.Same.{is_one_of}
use Rattle.folder_store.proofs.CallLemmas.{forgets_none, forgets_then}
use Rattle.folder_store.proofs.SweptLemmas.{all_listed, fewer_removed}
use Rattle.folder_store.proofs.swept.empty_swept.Goals as goal

pub loop-name-init : goal.loop-name-init
loop-name-init g c =
    let before = g.D.Device.past c.args.device.now in (
      refl,
      refl,
      (λ honest. forgets_none before before refl),
      (λ honest is_empty q q_name none. all_listed (files_of before) q q_name (ap (λ (ns : List (List ℕ)). is_one_of ns q) (sym (c.deref-name-items.ensures.value ∙ c.in_ok-names.ensures honest)) ∙ none)),
    )

pub loop-name-preserved : goal.loop-name-preserved
loop-name-preserved g c =
    let first = g.D.Device.past c.args.device.now in
    let old = g.D.Device.past c.loop-name.device in
    let new = g.D.Device.past c.remove_next-is_empty.new.device in
    let within : c.loop-name.name-index < length c.deref-name-items.result.now = omega (arith, c.loop-name-test.true) in (
      c.remove_next-is_empty.ensures.honest ∙ c.loop-name.invariant.0,
      c.remove_next-is_empty.ensures.kept ∙ c.loop-name.invariant.1,
      (λ honest. forgets_then first old new (c.loop-name.invariant.2 honest) (c.remove_next-is_empty.ensures.lasts (c.loop-name.invariant.0 ∙ honest))),
      (λ honest is_empty. fewer_removed old new c.name-item.result (drop c.loop-name.name-index c.deref-name-items.result.now) _
          (drop_more c.deref-name-items.result.now c.loop-name.name-index c.name-item.result within ∙ ap (λ (n : List ℕ). n ∷ drop (c.loop-name.name-index + 1) c.deref-name-items.result.now) (sym c.name-item.is))
          c.remove_next-is_empty.ensures.name (c.remove_next-is_empty.ensures.gone (c.loop-name.invariant.0 ∙ honest) is_empty) (c.loop-name.invariant.3 honest (c.remove_next-is_empty.ensures.before is_empty))),
    )
