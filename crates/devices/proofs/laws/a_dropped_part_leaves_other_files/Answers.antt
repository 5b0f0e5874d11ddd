use Rattle.devices.proofs.PartLemmas.{dropped_leaves, dropped_names, paths_apart}
use Rattle.devices.proofs.laws.a_dropped_part_leaves_other_files.Goals as goal

pub returns-clause-each : goal.returns-clause-each
returns-clause-each c part path old new differ drops = dropped_leaves part path old new (paths_apart part path differ) drops

pub returns-clause-names : goal.returns-clause-names
returns-clause-names c part folder old new drops = dropped_names part folder old new drops
