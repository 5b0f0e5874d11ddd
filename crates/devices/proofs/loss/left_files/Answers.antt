use Rattle.std.proofs.Common.{◌∙◌}
use Rattle.std.proofs.lemmas.Result.{IfOk-weaker}
use Rattle.devices.specs.Note.{effects_of}
use Rattle.devices.proofs.ChosenLemmas.{all_found}
use Rattle.devices.proofs.LossLemmas.{all_placed}
use Rattle.devices.proofs.loss.left_files.Goals as goal

pub returns-clause-may : goal.returns-clause-may
returns-clause-may c =
    IfOk-weaker c.left_among.result _ _ (λ left placed. all_placed c.args.base.now c.args.fates.now (effects_of c.args.notes.now) c.as_slice.result.now left (c.as_slice.ensures.value ∙ c.in_ok-paths.ensures) placed) c.left_among.ensures.may

pub returns-clause-chosen : goal.returns-clause-chosen
returns-clause-chosen c =
    IfOk-weaker c.left_among.result _ _ (λ left found. all_found c.args.base.now c.args.fates.now (effects_of c.args.notes.now) c.as_slice.result.now left (c.as_slice.ensures.value ∙ c.in_ok-paths.ensures) found) c.left_among.ensures.chosen
