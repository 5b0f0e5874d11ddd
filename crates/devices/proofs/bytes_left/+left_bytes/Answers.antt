use Rattle.std.proofs.Common.{◌++◌, List, ℕ, ◌∙◌, sym, ap}
use Rattle.std.proofs.lemmas.Result.{IfOk-weaker}
use Rattle.devices.specs.Crash.{bytes_after}
use Rattle.devices.specs.Note.{effects_of}
use Rattle.devices.proofs.ByteLemmas.{if_ok_always, newest_made, newest_sure}
use Rattle.devices.proofs.ChosenLemmas.{chosen_grown, chosen_kept, chosen_made, chosen_other}
use Rattle.devices.proofs.bytes_left.+left_bytes.Goals as goal

pub returns-in-Some-made_by-clause-may : goal.returns-in-Some-made_by-clause-may
returns-in-Some-made_by-clause-may t c =
    if_ok_always c.damaged.result (λ bytes. newest_made c.args.base.now c.args.notes.now c.in-Some.past.now c.in-Some.note.now (c.args.file.now.0.now, c.args.file.now.1) _ bytes.items c.in-Some.ensures.cases.0 c.in-Some-made_by.ensures)

pub returns-then-is_sure-clause-may : goal.returns-then-is_sure-clause-may
returns-then-is_sure-clause-may t c =
    IfOk-weaker c.seen_bytes.result _ _ (λ bytes is. newest_sure c.args.base.now c.args.notes.now c.in-Some.past.now c.in-Some.note.now (c.args.file.now.0.now, c.args.file.now.1) _ c.in-Some.ensures.cases.0 (sym c.is_sure.ensures ∙ c.if-is_sure.true) is) c.seen_bytes.ensures

pub returns-in-Some-made_by-clause-chosen : goal.returns-in-Some-made_by-clause-chosen
returns-in-Some-made_by-clause-chosen t c =
    IfOk-weaker c.damaged.result _ _ (λ bytes is. chosen_made c.args.base.now c.args.fates.now c.args.notes.now c.in-Some.past.now c.in-Some.note.now (c.args.file.now.0.now, c.args.file.now.1) _ _ _ bytes.items c.in-Some.ensures.cases.0 c.fate_at-fate.ensures c.in-Some-made_by.ensures c.as_bytes.ensures is) c.damaged.ensures

pub returns-in_default-appended-clause-chosen : goal.returns-in_default-appended-clause-chosen
returns-in_default-appended-clause-chosen t c =
    chosen_kept c.args.base.now c.args.fates.now c.args.notes.now c.in-Some.past.now c.in-Some.note.now (c.args.file.now.0.now, c.args.file.now.1) _ c.in-Some.ensures.cases.0 c.in_default-made_by.ensures (sym c.if-is_sure.false ∙ c.is_sure.ensures) c.in_default-appended.ensures c.in_ok-left.ensures.chosen

pub returns-then-not-is_at-clause-chosen : goal.returns-then-not-is_at-clause-chosen
returns-then-not-is_at-clause-chosen t c =
    chosen_other c.args.base.now c.args.fates.now c.args.notes.now c.in-Some.past.now c.in-Some.note.now (c.args.file.now.0.now, c.args.file.now.1) _ _ _ c.in-Some.ensures.cases.0 c.in_default-made_by.ensures (sym c.if-is_sure.false ∙ c.is_sure.ensures) c.in-Some-appended.ensures
    (sym c.is_at.ensures ∙ c.if-not-is_at.true) c.in_ok-left.ensures.chosen

pub returns-clause-chosen : goal.returns-clause-chosen
returns-clause-chosen t c =
    IfOk-weaker c.grown.result _ _ (λ bytes is. chosen_grown c.args.base.now c.args.fates.now c.args.notes.now c.in-Some.past.now c.in-Some.note.now (c.args.file.now.0.now, c.args.file.now.1) _ _ _ _ _ bytes.items c.in-Some.ensures.cases.0 c.fate_at-fate.ensures
    c.in_default-made_by.ensures (sym c.if-is_sure.false ∙ c.is_sure.ensures) c.in-Some-appended.ensures (sym c.is_at.ensures ∙ c.if-not-is_at.false) c.in_ok-left.ensures.chosen
    (c.as_slice.ensures.value ∙ c.in_ok-extend_from_slice.ensures.items ∙ ap (λ (xs : List ℕ). xs ++ c.as_bytes-2.result.now) c.in_ok-whole.ensures
    ∙ ap (λ (xs : List ℕ). bytes_after c.args.base.now (effects_of c.in-Some.past.now) (c.args.file.now.0.now, c.args.file.now.1) ++ xs) c.as_bytes-2.ensures) is) c.grown.ensures.chosen
