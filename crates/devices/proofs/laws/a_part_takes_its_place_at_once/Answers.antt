use Rattle.devices.specs.declared.device.DeviceFault.{DeviceFault}
use Rattle.devices.proofs.PartLemmas.{paths_apart, placed_each, placed_names, placed_sure}
use Rattle.devices.proofs.laws.a_part_takes_its_place_at_once.Goals as goal

pub returns-clause-each : goal.returns-clause-each
returns-clause-each c part path folder text old mid new result differ written runs = placed_each part path folder text old mid new (paths_apart part path differ) written result runs

pub returns-clause-sure : goal.returns-clause-sure
returns-clause-sure c part path folder text old mid new differ is_in written runs unfailed =
    placed_sure part path folder text old mid new (paths_apart part path differ) written DeviceFault (tt {0}) runs is_in unfailed

pub returns-clause-names : goal.returns-clause-names
returns-clause-names c part path folder text old mid new differ written runs =
    placed_names part path folder text old mid new (paths_apart part path differ) written DeviceFault (tt {0}) runs
