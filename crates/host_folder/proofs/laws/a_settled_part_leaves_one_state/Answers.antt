use Rattle.std.proofs.Common.{[], sym, ◌∙◌}
use Rattle.devices.specs.Parts.{LeavesAs}
use Rattle.devices.proofs.MomentLemmas.{throughout_end}
use Rattle.devices.proofs.PartLemmas.{part_written}
use Rattle.host_folder.specs.State.{part_file, state_file}
use Rattle.host_folder.proofs.StateLemmas.{either_left, is_sure_still, part_is_apart, settled, state_is_in, tried}
use Rattle.host_folder.proofs.SyncLemmas.{placing_names}
use Rattle.host_folder.proofs.laws.a_settled_part_leaves_one_state.Goals as goal

pub returns-clause-each : goal.returns-clause-each
returns-clause-each c before text old mid new sure written (at, (result, runs), drops) =
    either_left before text old mid new sure (c.a_part_leaves_other_files.ensures.each part_file state_file old mid part_is_apart (part_written part_file text old mid written))
    (settled state_file text old mid at new (c.a_part_takes_its_place_at_once.ensures.each part_file state_file [] text old mid at result part_is_apart written runs) (c.a_dropped_part_leaves_other_files.ensures.each part_file state_file at new part_is_apart drops))

pub returns-clause-placed : goal.returns-clause-placed
returns-clause-placed c text old mid new written places unfailed = c.a_part_takes_its_place_at_once.ensures.sure part_file state_file [] text old mid new part_is_apart state_is_in written places unfailed

pub returns-clause-stays : goal.returns-clause-stays
returns-clause-stays c before text old mid new sure written drops =
    is_sure_still before old sure new
    (tried state_file old mid new (c.a_part_leaves_other_files.ensures.each part_file state_file old mid part_is_apart (part_written part_file text old mid written)) (c.a_dropped_part_leaves_other_files.ensures.each part_file state_file mid new part_is_apart drops))

pub returns-clause-dropped : goal.returns-clause-dropped
returns-clause-dropped c text old mid new written drops =
    throughout_end (LeavesAs old state_file) old new
    (tried state_file old mid new (c.a_part_leaves_other_files.ensures.each part_file state_file old mid part_is_apart (part_written part_file text old mid written)) (c.a_dropped_part_leaves_other_files.ensures.each part_file state_file mid new part_is_apart drops))

pub returns-clause-names : goal.returns-clause-names
returns-clause-names c text old mid new written (at, (result, runs), drops) unfailed =
    sym (c.a_part_leaves_other_files.ensures.names part_file [] old mid (part_written part_file text old mid written))
    ∙ placing_names [] mid part_file state_file [] at result runs (sym (c.a_dropped_part_leaves_other_files.ensures.names part_file [] at new drops) ∙ unfailed)
