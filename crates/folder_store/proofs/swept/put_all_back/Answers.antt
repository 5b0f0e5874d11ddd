use Rattle.std.proofs.Common.{◌<◌, ◌+◌, ℕ, ◌∷◌, List, length, drop, refl, sym, ap, ◌∙◌, arith}
use Rattle.std.specs.FinMap as map
use Rattle.std.proofs.lemmas.List.{drop_more}
use Rattle.devices.specs.Device.{files_of}
use Rattle.devices.specs.declared.device.DeviceFault.{DeviceFault}
use Rattle.git_name.specs.Same.{is_one_of}
use Rattle.folder_store.specs.Contents.{contents_of}
use Rattle.folder_store.specs.Swept.{is_whole}
use Rattle.folder_store.proofs.OpeningLemmas.{last_back, last_none, last_then}
use Rattle.folder_store.proofs.SweptLemmas.{alike_then, all_listed, fewer_left, stepped_back}
use Rattle.folder_store.proofs.swept.put_all_back.Goals as goal

pub loop-name-init : goal.loop-name-init
loop-name-init g c =
    let before = g.D.Device.past c.args.device.now in (
      refl,
      (λ honest q q_name. refl),
      (λ honest q q_name none. all_listed (files_of before) q q_name (ap (λ (ns : List (List ℕ)). is_one_of ns q) (sym (c.deref-name-items.ensures.value ∙ c.in_ok-names.ensures honest)) ∙ none)),
      (λ honest. last_none before before refl),
    )

pub loop-name-preserved : goal.loop-name-preserved
loop-name-preserved g c =
    let first = files_of (g.D.Device.past c.args.device.now) in
    let old = g.D.Device.past c.loop-name.device in
    let new = g.D.Device.past c.put_back.new.device in
    let within : c.loop-name.name-index < length c.deref-name-items.result.now = omega (arith, c.loop-name-test.true) in (
      c.put_back.ensures.honest ∙ c.loop-name.invariant.0,
      (λ honest. alike_then first (files_of old) (files_of new) (c.loop-name.invariant.1 honest)
          (stepped_back DeviceFault old new c.name-item.result (is_whole c.name-item.result (map.get (contents_of (files_of old)) c.name-item.result)) c.in_ok-put_back.field-0 c.put_back.ensures.name refl
          (c.in_ok-put_back.ensures.effects (c.loop-name.invariant.0 ∙ honest))).alike),
      (λ honest. fewer_left (files_of old) (files_of new) c.name-item.result (drop c.loop-name.name-index c.deref-name-items.result.now) _
          (drop_more c.deref-name-items.result.now c.loop-name.name-index c.name-item.result within ∙ ap (λ (n : List ℕ). n ∷ drop (c.loop-name.name-index + 1) c.deref-name-items.result.now) (sym c.name-item.is))
          (stepped_back DeviceFault old new c.name-item.result (is_whole c.name-item.result (map.get (contents_of (files_of old)) c.name-item.result)) c.in_ok-put_back.field-0 c.put_back.ensures.name refl
          (c.in_ok-put_back.ensures.effects (c.loop-name.invariant.0 ∙ honest)))
          (c.loop-name.invariant.2 honest)),
      (λ honest. last_then (g.D.Device.past c.args.device.now) old new (c.loop-name.invariant.3 honest)
          (last_back DeviceFault old new c.name-item.result (is_whole c.name-item.result (map.get (contents_of (files_of old)) c.name-item.result)) c.in_ok-put_back.field-0 c.put_back.ensures.name refl
          (c.in_ok-put_back.ensures.effects (c.loop-name.invariant.0 ∙ honest)))),
    )
