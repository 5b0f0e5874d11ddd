use Rattle.std.proofs.Common.{[]}
use Rattle.devices.proofs.PartLemmas.{part_written}
use Rattle.host_folder.specs.State.{part_file, state_file}
use Rattle.host_folder.proofs.StateLemmas.{either_left, part_is_apart, state_is_in}
use Rattle.host_folder.proofs.laws.a_state_is_replaced_at_once.Goals as goal

pub returns-clause-each : goal.returns-clause-each
returns-clause-each c before text old mid new result sure written runs =
    either_left before text old mid new sure (c.a_part_leaves_other_files.ensures.each part_file state_file old mid part_is_apart (part_written part_file text old mid written))
    (c.a_part_takes_its_place_at_once.ensures.each part_file state_file [] text old mid new result part_is_apart written runs)

pub returns-clause-sure : goal.returns-clause-sure
returns-clause-sure c text old mid new written runs unfailed = c.a_part_takes_its_place_at_once.ensures.sure part_file state_file [] text old mid new part_is_apart state_is_in written runs unfailed

pub returns-clause-names : goal.returns-clause-names
returns-clause-names c text old mid new written runs = c.a_part_takes_its_place_at_once.ensures.names part_file state_file [] text old mid new part_is_apart written runs
