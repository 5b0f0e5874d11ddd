use Rattle.std.proofs.Common.{◌∙◌, ap, refl}
use Rattle.folder_store.specs.Place.{home_with}
use Rattle.folder_store.proofs.SyncLemmas.{home_missing, missing_differs}
use Rattle.folder_store.proofs.syncing.sync_home_of.Goals as goal

pub returns-in-Err-Missing-clause-effect : goal.returns-in-Err-Missing-clause-effect
returns-in-Err-Missing-clause-effect g c honest =
    home_missing c.args.first (g.D.Device.past c.args.device.now) (g.D.Device.past c.sync_names.new.device) (g.D.Device.past c.sync_names.new.device) c.as_str-in-Err-Missing.result.now c.require_empty.result
    (c.in-Err-Missing.ensures.untried honest (missing_differs c.in-Err-Missing.field-0 c.in-Err-Missing.field-0-is)) refl
    (c.as_str-in-Err-Missing.ensures.value ∙ c.in_ok-home.ensures ∙ ap home_with c.as_slice.ensures) (c.require_empty.ensures (c.sync_names.ensures.honest ∙ honest))
