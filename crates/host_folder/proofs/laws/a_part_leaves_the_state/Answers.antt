use Rattle.std.proofs.Common.{[]}
use Rattle.host_folder.specs.State.{part_file, state_file}
use Rattle.host_folder.proofs.StateLemmas.{is_sure_still, part_is_apart, stays_sure}
use Rattle.host_folder.proofs.laws.a_part_leaves_the_state.Goals as goal

pub returns-clause-each : goal.returns-clause-each
returns-clause-each c before old new sure writes = stays_sure before old sure new (c.a_part_leaves_other_files.ensures.each part_file state_file old new part_is_apart writes)

pub returns-clause-sure : goal.returns-clause-sure
returns-clause-sure c before old new sure writes = is_sure_still before old sure new (c.a_part_leaves_other_files.ensures.each part_file state_file old new part_is_apart writes)

pub returns-clause-names : goal.returns-clause-names
returns-clause-names c old new writes = c.a_part_leaves_other_files.ensures.names part_file [] old new writes
