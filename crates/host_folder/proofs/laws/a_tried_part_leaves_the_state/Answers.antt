use Rattle.std.proofs.Common.{◌∙◌, []}
use Rattle.devices.specs.Parts.{LeavesAs}
use Rattle.devices.proofs.MomentLemmas.{throughout_end}
use Rattle.host_folder.specs.State.{part_file, state_file}
use Rattle.host_folder.proofs.StateLemmas.{is_sure_still, part_is_apart, stays_sure, tried}
use Rattle.host_folder.proofs.laws.a_tried_part_leaves_the_state.Goals as goal

pub returns-clause-each : goal.returns-clause-each
returns-clause-each c before old new sure (mid, writes, drops) =
    stays_sure before old sure new (tried state_file old mid new (c.a_part_leaves_other_files.ensures.each part_file state_file old mid part_is_apart writes) (c.a_dropped_part_leaves_other_files.ensures.each part_file state_file mid new part_is_apart drops))

pub returns-clause-sure : goal.returns-clause-sure
returns-clause-sure c before old new sure (mid, writes, drops) =
    is_sure_still before old sure new (tried state_file old mid new (c.a_part_leaves_other_files.ensures.each part_file state_file old mid part_is_apart writes) (c.a_dropped_part_leaves_other_files.ensures.each part_file state_file mid new part_is_apart drops))

pub returns-clause-names : goal.returns-clause-names
returns-clause-names c old new (mid, writes, drops) = c.a_dropped_part_leaves_other_files.ensures.names part_file [] mid new drops ∙ c.a_part_leaves_other_files.ensures.names part_file [] old mid writes

pub returns-clause-leaves : goal.returns-clause-leaves
returns-clause-leaves c old new (mid, writes, drops) =
    throughout_end (LeavesAs old state_file) old new
    (tried state_file old mid new (c.a_part_leaves_other_files.ensures.each part_file state_file old mid part_is_apart writes) (c.a_dropped_part_leaves_other_files.ensures.each part_file state_file mid new part_is_apart drops))
