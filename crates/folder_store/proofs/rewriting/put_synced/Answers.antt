use Rattle.std.proofs.Common.{◌≡◌, ap, subst, sym, ◌∙◌, arith, List, ℕ, Some, true}
use Rattle.std.specs.FinMap.{get}
use Rattle.devices.specs.declared.device.DeviceFault.{DeviceFault}
use Rattle.devices.specs.Device.{Does, Removed}
use Rattle.loose_store.specs.Files.{Files}
use Rattle.folder_store.specs.Place.{name_at}
use Rattle.folder_store.proofs.CallLemmas.{gone_unfailed, part_gone, puts_file, puts_then}
use Rattle.folder_store.proofs.EffectLemmas.{put_ok, put_others}
use Rattle.folder_store.specs.Swept.{is_whole}
use Rattle.folder_store.proofs.ContentLemmas.{shown_whole}
use Rattle.folder_store.proofs.RewritingLemmas.{own_lasts, own_lasts_gone}
use Rattle.folder_store.proofs.PlaceLemmas.{part_has_none}
use Rattle.folder_store.proofs.rewriting.put_synced.Goals as goal

pub returns-in-Ok-clause-ok : goal.returns-in-Ok-clause-ok
returns-in-Ok-clause-ok g c honest =
    put_ok (g.D.Device.honest c.args.device.now) (g.D.Device.honest c.write_sync_and_rename.new.device) (g.D.Device.past c.args.device.now) (g.D.Device.past c.write_sync_and_rename.new.device) honest c.write_sync_and_rename.ensures.honest
    c.args.name _ c.in_ok-path.ensures.name (c.as_str-2.ensures.value ∙ c.in_ok-path.ensures.path) _ c.args.bytes.now (c.as_str.ensures.value ∙ c.in_ok-part.ensures) (omega (arith, c.if-bytes-gt-MAX_FILE.false)) DeviceFault true c.in-Ok.field-0 (c.in-Ok.ensures.effects honest)

pub returns-in-Ok-clause-others : goal.returns-in-Ok-clause-others
returns-in-Ok-clause-others g c honest =
    put_others (g.D.Device.honest c.args.device.now) (g.D.Device.honest c.write_sync_and_rename.new.device) (g.D.Device.past c.args.device.now) (g.D.Device.past c.write_sync_and_rename.new.device) honest c.write_sync_and_rename.ensures.honest
    c.args.name _ c.in_ok-path.ensures.name (c.as_str-2.ensures.value ∙ c.in_ok-path.ensures.path) _ c.args.bytes.now (c.as_str.ensures.value ∙ c.in_ok-part.ensures) (omega (arith, c.if-bytes-gt-MAX_FILE.false)) true c.write_sync_and_rename.result (c.write_sync_and_rename.ensures.effects honest)

pub returns-clause-others : goal.returns-clause-others
returns-clause-others g c honest other differs =
    let none : name_at c.as_str-in-Err.result.now ≡ _ = ap name_at (c.as_str-in-Err.ensures.value ∙ c.in_ok-part.ensures) ∙ part_has_none c.args.name c.in_ok-path.ensures.name in
    ap (λ (k : Files). get k other) (c.remove_other-removed.ensures.kept none)
    ∙ put_others (g.D.Device.honest c.args.device.now) (g.D.Device.honest c.write_sync_and_rename.new.device) (g.D.Device.past c.args.device.now) (g.D.Device.past c.write_sync_and_rename.new.device) honest c.write_sync_and_rename.ensures.honest
    c.args.name _ c.in_ok-path.ensures.name (c.as_str-2.ensures.value ∙ c.in_ok-path.ensures.path) _ c.args.bytes.now (c.as_str.ensures.value ∙ c.in_ok-part.ensures) (omega (arith, c.if-bytes-gt-MAX_FILE.false)) true c.write_sync_and_rename.result (c.write_sync_and_rename.ensures.effects honest) other differs

pub returns-in-Ok-clause-lasts : goal.returns-in-Ok-clause-lasts
returns-in-Ok-clause-lasts g c honest =
    puts_file c.args.name c.in_ok-path.ensures.name true (g.D.Device.past c.args.device.now) (g.D.Device.past c.write_sync_and_rename.new.device) c.args.bytes.now c.as_str.result.now c.as_str-2.result.now c.write_sync_and_rename.result
    (c.as_str.ensures.value ∙ c.in_ok-part.ensures) (c.as_str-2.ensures.value ∙ c.in_ok-path.ensures.path) (c.write_sync_and_rename.ensures.effects honest)

pub returns-clause-lasts : goal.returns-clause-lasts
returns-clause-lasts g c honest =
    puts_then c.args.name (g.D.Device.past c.args.device.now) (g.D.Device.past c.write_sync_and_rename.new.device) (g.D.Device.past c.remove_other-removed.new.device)
    (puts_file c.args.name c.in_ok-path.ensures.name true (g.D.Device.past c.args.device.now) (g.D.Device.past c.write_sync_and_rename.new.device) c.args.bytes.now c.as_str.result.now c.as_str-2.result.now c.write_sync_and_rename.result
    (c.as_str.ensures.value ∙ c.in_ok-part.ensures) (c.as_str-2.ensures.value ∙ c.in_ok-path.ensures.path) (c.write_sync_and_rename.ensures.effects honest))
    (part_gone c.args.name c.in_ok-path.ensures.name (g.D.Device.past c.write_sync_and_rename.new.device) (g.D.Device.past c.remove_other-removed.new.device) c.as_str-in-Err.result.now c.args.bytes.now c.remove_other-removed.result (c.as_str-in-Err.ensures.value ∙ c.in_ok-part.ensures)
    (c.remove_other-removed.ensures.effect (c.write_sync_and_rename.ensures.honest ∙ honest)))

pub returns-in-Ok-clause-own : goal.returns-in-Ok-clause-own
returns-in-Ok-clause-own g c honest unfailed none whole safe lasts =
    own_lasts c.args.name c.in_ok-path.ensures.name (g.D.Device.past c.args.device.now) (g.D.Device.past c.write_sync_and_rename.new.device) c.args.bytes.now c.as_str.result.now c.as_str-2.result.now c.write_sync_and_rename.result
    (c.as_str.ensures.value ∙ c.in_ok-part.ensures) (c.as_str-2.ensures.value ∙ c.in_ok-path.ensures.path) (c.write_sync_and_rename.ensures.effects honest) unfailed none
    (ap (λ (bytes : List ℕ). is_whole c.args.name (Some bytes)) (shown_whole c.args.bytes.now (omega (arith, c.if-bytes-gt-MAX_FILE.false))) ∙ whole) safe

pub returns-clause-own : goal.returns-clause-own
returns-clause-own g c honest unfailed none whole safe lasts =
    own_lasts_gone c.args.name c.in_ok-path.ensures.name (g.D.Device.past c.args.device.now) (g.D.Device.past c.write_sync_and_rename.new.device) c.args.bytes.now c.as_str.result.now c.as_str-2.result.now c.write_sync_and_rename.result
    (c.as_str.ensures.value ∙ c.in_ok-part.ensures) (c.as_str-2.ensures.value ∙ c.in_ok-path.ensures.path) (c.write_sync_and_rename.ensures.effects honest) unfailed none
    (ap (λ (bytes : List ℕ). is_whole c.args.name (Some bytes)) (shown_whole c.args.bytes.now (omega (arith, c.if-bytes-gt-MAX_FILE.false))) ∙ whole) safe
    (g.D.Device.past c.remove_other-removed.new.device) c.remove_other-removed.result
    (subst (λ (p : List ℕ). Does (Removed p) (g.D.Device.past c.write_sync_and_rename.new.device) (g.D.Device.past c.remove_other-removed.new.device) c.remove_other-removed.result) (c.as_str-in-Err.ensures.value ∙ sym c.as_str.ensures.value)
    (c.remove_other-removed.ensures.effect (c.write_sync_and_rename.ensures.honest ∙ honest)))

pub returns-clause-unfailed : goal.returns-clause-unfailed
returns-clause-unfailed g c honest still unfailed =
    gone_unfailed (g.D.Device.past c.write_sync_and_rename.new.device) (g.D.Device.past c.remove_other-removed.new.device) c.as_str-in-Err.result.now c.remove_other-removed.result (c.remove_other-removed.ensures.effect (c.write_sync_and_rename.ensures.honest ∙ honest))
    (c.write_sync_and_rename.ensures.unfailed honest still unfailed)
