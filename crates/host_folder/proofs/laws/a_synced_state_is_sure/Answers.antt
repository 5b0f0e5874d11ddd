use Rattle.std.proofs.Common.{[], Some, sym, subst}
use Rattle.devices.specs.Device.{Past}
use Rattle.devices.specs.Parts.{IsSure, LeavesAs}
use Rattle.devices.proofs.MomentLemmas.{throughout_end}
use Rattle.host_folder.specs.State.{state_file}
use Rattle.host_folder.proofs.StateLemmas.{stays_sure}
use Rattle.host_folder.proofs.SyncLemmas.{shown_sure, syncs_leave, syncs_names}
use Rattle.host_folder.proofs.laws.a_synced_state_is_sure.Goals as goal

pub returns-clause-leaves : goal.returns-clause-leaves
returns-clause-leaves c old new result runs = throughout_end (LeavesAs old state_file) old new (syncs_leave old state_file new result runs)

pub returns-clause-each : goal.returns-clause-each
returns-clause-each c before old new result sure runs = stays_sure before old sure new (syncs_leave old state_file new result runs)

pub returns-clause-shown : goal.returns-clause-shown
returns-clause-shown c text old new shown runs = subst (λ (p : Past). IsSure p state_file (Some text)) (sym runs) (shown_sure text old shown)

pub returns-clause-names : goal.returns-clause-names
returns-clause-names c old new result runs unfailed = syncs_names [] old new result runs unfailed
