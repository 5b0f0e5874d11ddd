use Rattle.devices.proofs.PartLemmas.{part_leaves, part_names, paths_apart}
use Rattle.devices.proofs.laws.a_part_leaves_other_files.Goals as goal

pub returns-clause-each : goal.returns-clause-each
returns-clause-each c part path old new differ writes = part_leaves part path old new (paths_apart part path differ) writes

pub returns-clause-names : goal.returns-clause-names
returns-clause-names c part folder old new writes = part_names part folder old new writes
