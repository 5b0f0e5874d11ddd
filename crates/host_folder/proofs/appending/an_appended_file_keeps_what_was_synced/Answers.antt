use Rattle.std.proofs.Common.{inl, inr, refl, subst, sym}
use Rattle.host_folder.specs.Appending.{IsAppendedTo, bytes_at}
use Rattle.devices.specs.Device.{Added, Moved}
use Rattle.devices.specs.declared.device.DeviceFault.{DeviceFault}
use Rattle.host_folder.proofs.AppendLemmas.{appended_left, appended_synced, grows_keeps, opened_appended}
use Rattle.host_folder.proofs.PlacedLemmas.{begun_appended, placed_appended}
use Rattle.host_folder.proofs.appending.an_appended_file_keeps_what_was_synced.Goals as goal

pub returns-clause-begins : goal.returns-clause-begins
returns-clause-begins c part path folder text old mid new is_in written runs unfailed = begun_appended part path folder text old mid new written DeviceFault (tt {0}) runs is_in unfailed

pub returns-clause-placed : goal.returns-clause-placed
returns-clause-placed c part path folder text old new is_in unfailed shown runs none = placed_appended part path folder text old new unfailed shown DeviceFault (tt {0}) runs is_in none

pub returns-clause-opened : goal.returns-clause-opened
returns-clause-opened c path text past none is = opened_appended path text past none is

pub returns-clause-appends : goal.returns-clause-appends
returns-clause-appends c path least bytes old new result was does = grows_keeps path least (Added path bytes) old new result (inl refl) was does

pub returns-clause-syncs : goal.returns-clause-syncs
returns-clause-syncs c path least old new was unfailed does = subst (IsAppendedTo path (bytes_at path old)) (sym does) (appended_synced path least old unfailed was)

pub returns-clause-beside : goal.returns-clause-beside
returns-clause-beside c path least effect old new result was off does = grows_keeps path least effect old new result (inr off) was does

pub returns-clause-renames : goal.returns-clause-renames
returns-clause-renames c path least from to old new result was off does = grows_keeps path least (Moved from to) old new result (inr off) was does

pub returns-clause-left : goal.returns-clause-left
returns-clause-left c path least past is = appended_left path least past is
