use Rattle.std.proofs.Common.{◌≡◌, true}
use Rattle.devices.specs.Device.{Files}
use Rattle.folder_store.specs.Lasting.{IsPlaceSafe}
use Rattle.devices.specs.Moments.{LeavesOnly}
use Rattle.folder_store.specs.Swept.{is_whole, opened}
use Rattle.folder_store.proofs.LastingLemmas.{left_whole, safe_by_place}
use Rattle.devices.proofs.MomentLemmas.{throughout_map}
use Rattle.folder_store.proofs.StandingLemmas.{left_safe}
use Rattle.folder_store.proofs.laws.what_was_synced_lasts.Goals as goal

pub returns : goal.returns
returns c calls old new name is_name all none leave safe =
    throughout_map (IsPlaceSafe name) (LeavesOnly (λ (left : Files). is_whole name (opened left name) ≡ true)) (λ past kept left may. left_whole past name left is_name (safe_by_place past name kept) may) old.past new.past
    (left_safe calls old new name is_name all none leave safe)
