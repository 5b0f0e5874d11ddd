use Rattle.std.proofs.Common.{inr, subst, sym}
use Rattle.host_folder.specs.Appending.{IsUnfailed}
use Rattle.devices.specs.Device.{Moved}
use Rattle.devices.specs.declared.device.DeviceFault.{DeviceFault}
use Rattle.host_folder.proofs.PlacedLemmas.{begun_unfailed, placed_unfailed}
use Rattle.host_folder.proofs.UnfailedLemmas.{does_unfailed, done_unfailed, first_unfailed, none_is, opened_unfailed, synced_unfailed}
use Rattle.host_folder.proofs.appending.a_file_is_unfailed_until_a_sync_of_it_fails.Goals as goal

pub returns-clause-written : goal.returns-clause-written
returns-clause-written c path bytes old new does = subst (IsUnfailed path) (sym does) (first_unfailed path bytes old)

pub returns-clause-begins : goal.returns-clause-begins
returns-clause-begins c part path folder text old mid new written runs = begun_unfailed part path folder text old mid new written DeviceFault (tt {0}) runs

pub returns-clause-placed : goal.returns-clause-placed
returns-clause-placed c part path folder text old new unfailed shown runs = placed_unfailed part path folder text old new unfailed shown DeviceFault (tt {0}) runs

pub returns-clause-stays : goal.returns-clause-stays
returns-clause-stays c path effect old new result was grows synced failed does = does_unfailed path effect old new result grows synced failed was does

pub returns-clause-syncs : goal.returns-clause-syncs
returns-clause-syncs c path old new was does = subst (IsUnfailed path) (sym does) (synced_unfailed path old was)

pub returns-clause-all : goal.returns-clause-all
returns-clause-all c path past done was grow none = done_unfailed path past done grow none was

pub returns-clause-opened : goal.returns-clause-opened
returns-clause-opened c path past none = opened_unfailed path past none

pub returns-clause-renames : goal.returns-clause-renames
returns-clause-renames c path from to old new result was off does = does_unfailed path (Moved from to) old new result (inr off) (none_is path) (none_is path) was does
