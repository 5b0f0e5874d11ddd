use Rattle.std.proofs.Common.{refl, sym, ◌∙◌}
use Rattle.std.proofs.lemmas.Result.{IfOk-weaker}
use Rattle.devices.specs.Loss.{kept_in, left_at, left_names}
use Rattle.devices.specs.Note.{effects_of}
use Rattle.devices.proofs.ChosenLemmas.{found_again, stands_chosen}
use Rattle.devices.proofs.CopyLemmas.{copied_first, copied_none}
use Rattle.devices.proofs.LossLemmas.{placed_again, placed_first, placed_none}
use Rattle.devices.proofs.loss.+left_among.Goals as goal

pub returns-in_default-clause-may : goal.returns-in_default-clause-may
returns-in_default-clause-may t c =
    placed_none c.args.base.now (effects_of c.args.notes.now) (left_names c.args.base.now (kept_in c.args.fates.now (effects_of c.args.notes.now)) (effects_of c.args.notes.now)) c.args.paths.now c.new.result c.in_default.ensures.cases c.new.ensures

pub returns-then-is_among-clause-may : goal.returns-then-is_among-clause-may
returns-then-is_among-clause-may t c =
    IfOk-weaker c.left_among.result _ _ (λ left placed. placed_again c.args.base.now (effects_of c.args.notes.now) (left_names c.args.base.now (kept_in c.args.fates.now (effects_of c.args.notes.now)) (effects_of c.args.notes.now)) c.in-Some.path.now c.args.paths.now
    c.in-Some.others.now left c.in-Some.ensures.cases.0 (sym c.is_among.ensures ∙ c.if-is_among.true) placed) c.left_among.ensures.may

pub returns-in_default-clause-chosen : goal.returns-in_default-clause-chosen
returns-in_default-clause-chosen t c = copied_none (left_at c.args.base.now c.args.fates.now (effects_of c.args.notes.now)) c.new.result c.args.paths.now c.in_default.ensures.cases c.new.ensures

pub returns-then-is_among-clause-chosen : goal.returns-then-is_among-clause-chosen
returns-then-is_among-clause-chosen t c =
    IfOk-weaker c.left_among.result _ _ (λ left found. found_again (left_at c.args.base.now c.args.fates.now (effects_of c.args.notes.now)) c.in-Some.path.now c.args.paths.now c.in-Some.others.now left
    c.in-Some.ensures.cases.0 (sym c.is_among.ensures ∙ c.if-is_among.true) found) c.left_among.ensures.chosen

pub returns-clause-may : goal.returns-clause-may
returns-clause-may t c =
    placed_first c.args.base.now (effects_of c.args.notes.now) (left_names c.args.base.now (kept_in c.args.fates.now (effects_of c.args.notes.now)) (effects_of c.args.notes.now)) c.in-Some.path.now c.in-Some.path.now c.args.paths.now c.in-Some.others.now (left_at c.args.base.now c.args.fates.now (effects_of c.args.notes.now) c.in-Some.path.now) c.in_ok-left.left c.add_left.new.left c.in-Some.ensures.cases.0 refl c.in_ok-add_left.ensures
    (stands_chosen c.args.base.now c.args.fates.now (effects_of c.args.notes.now) c.in-Some.path.now) c.in_ok-left.ensures.may

pub returns-clause-chosen : goal.returns-clause-chosen
returns-clause-chosen t c =
    copied_first (left_at c.args.base.now c.args.fates.now (effects_of c.args.notes.now)) c.in_ok-left.left c.add_left.new.left c.in-Some.path.now c.in-Some.path.now c.args.paths.now c.in-Some.others.now (left_at c.args.base.now c.args.fates.now (effects_of c.args.notes.now) c.in-Some.path.now) c.in-Some.ensures.cases.0 refl refl c.in_ok-add_left.ensures c.in_ok-left.ensures.chosen
