use Rattle.std.proofs.Common.{◌≡◌, ◌∙◌, refl, sym, true, false, rules}
use Rattle.devices.specs.declared.device.DeviceFault.{DeviceFault}
use Rattle.folder_store.proofs.StandingLemmas.{again_call, move_call, run_as, unswept_call}
use Rattle.folder_store.proofs.folder.put_again.Goals as goal

pub returns-in_err-sync_move-clause-call : goal.returns-in_err-sync_move-clause-call
returns-in_err-sync_move-clause-call g c honest =
    move_call c.args.name c.args.bytes.now (g.D.Device.past c.args.device.now) (g.D.Device.past c.sync_move.new.device) c.args.unsynced.now.has_failed c.sync_move.new.self.has_failed _ c.sync_move.result
    (c.sync_move.ensures.effects honest) (c.sync_move.ensures.only honest) c.sync_move.ensures.failed

pub returns-then-not-branch-clause-call : goal.returns-then-not-branch-clause-call
returns-then-not-branch-clause-call g c honest =
    let has : c.in_ok-sync_move.field-0 ≡ false = search rules in
    let none = sym (c.in_ok-sync_move.ensures.found honest) ∙ has in
    unswept_call c.args.name c.args.bytes.now (g.D.Device.past c.args.device.now) (g.D.Device.past c.sync_move.new.device) (g.D.Device.past c.put_file.new.device) c.args.unsynced.now.has_failed c.sync_move.new.self.has_failed _ refl none
    (run_as DeviceFault c.args.name (g.D.Device.past c.args.device.now) (g.D.Device.past c.sync_move.new.device) _ false c.in_ok-sync_move.field-0 none (c.in_ok-sync_move.ensures.effects honest))
    c.sync_move.ensures.failed (c.put_file.ensures.lasts (c.sync_move.ensures.honest ∙ honest)) (c.put_file.ensures.unfailed (c.sync_move.ensures.honest ∙ honest))

pub returns-clause-call : goal.returns-clause-call
returns-clause-call g c honest =
    let has : c.in_ok-sync_move.field-0 ≡ true = search rules in
    let some = sym (c.in_ok-sync_move.ensures.found honest) ∙ has in
    again_call DeviceFault c.args.name c.args.bytes.now (g.D.Device.past c.args.device.now) (g.D.Device.past c.sync_move.new.device) (g.D.Device.past c.put_synced.new.device) c.args.unsynced.now.has_failed c.sync_move.new.self.has_failed c.put_synced.new.unsynced.has_failed
    c.in_ok-sync_move.field-0 (run_as DeviceFault c.args.name (g.D.Device.past c.args.device.now) (g.D.Device.past c.sync_move.new.device) _ true c.in_ok-sync_move.field-0 some (c.in_ok-sync_move.ensures.effects honest)) (c.sync_move.ensures.only honest) c.sync_move.ensures.failed
    c.put_synced.ensures.failed (c.put_synced.ensures.lasts (c.sync_move.ensures.honest ∙ honest)) (c.put_synced.ensures.unfailed (c.sync_move.ensures.honest ∙ honest)) (c.put_synced.ensures.own (c.sync_move.ensures.honest ∙ honest))
