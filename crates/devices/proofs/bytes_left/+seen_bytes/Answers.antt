use Rattle.std.proofs.Common.{None, Some, ◌∙◌, ◌++◌, cond, sym, ap, refl, List, ℕ}
use Rattle.std.proofs.lemmas.Result.{IfOk-weaker}
use Rattle.devices.specs.Crash.{bytes_after}
use Rattle.devices.specs.Loss.{added_in}
use Rattle.devices.specs.Note.{effect_of, effects_of}
use Rattle.devices.proofs.ByteLemmas.{bytes_newest}
use Rattle.devices.proofs.bytes_left.+seen_bytes.Goals as goal

pub returns-in-Some-made_by : goal.returns-in-Some-made_by
returns-in-Some-made_by t c =
    IfOk-weaker c.copied.result _ _ (λ bytes is. is ∙ bytes_newest c.args.base.now c.args.notes.now c.in-Some.past.now c.in-Some.note.now (c.args.file.now.0.now, c.args.file.now.1) (Some c.in-Some-made_by.bytes.now)
    (added_in (effect_of c.in-Some.note.now)) c.in-Some.ensures.cases.0 c.in-Some-made_by.ensures refl) c.copied.ensures

pub returns-in_default-appended : goal.returns-in_default-appended
returns-in_default-appended t c =
    c.in_ok-seen.ensures ∙ bytes_newest c.args.base.now c.args.notes.now c.in-Some.past.now c.in-Some.note.now (c.args.file.now.0.now, c.args.file.now.1) None None
    c.in-Some.ensures.cases.0 c.in_default-made_by.ensures c.in_default-appended.ensures

pub returns-then-not-is_at : goal.returns-then-not-is_at
returns-then-not-is_at t c =
    c.in_ok-seen.ensures
    ∙ ap (λ b. cond b (bytes_after c.args.base.now (effects_of c.in-Some.past.now) (c.args.file.now.0.now, c.args.file.now.1) ++ c.in-Some-appended.bytes.now) (bytes_after c.args.base.now (effects_of c.in-Some.past.now) (c.args.file.now.0.now, c.args.file.now.1))) (sym c.if-not-is_at.true ∙ c.is_at.ensures)
    ∙ bytes_newest c.args.base.now c.args.notes.now c.in-Some.past.now c.in-Some.note.now (c.args.file.now.0.now, c.args.file.now.1) None (Some (c.in-Some-appended.path.now, c.in-Some-appended.bytes.now))
    c.in-Some.ensures.cases.0 c.in_default-made_by.ensures c.in-Some-appended.ensures

pub returns : goal.returns
returns t c =
    c.in_ok-extend_from_slice.ensures.items
    ∙ ap (λ (xs : List ℕ). xs ++ c.as_bytes.result.now) c.in_ok-seen.ensures
    ∙ ap (λ (xs : List ℕ). bytes_after c.args.base.now (effects_of c.in-Some.past.now) (c.args.file.now.0.now, c.args.file.now.1) ++ xs) c.as_bytes.ensures
    ∙ ap (λ b. cond b (bytes_after c.args.base.now (effects_of c.in-Some.past.now) (c.args.file.now.0.now, c.args.file.now.1) ++ c.in-Some-appended.bytes.now) (bytes_after c.args.base.now (effects_of c.in-Some.past.now) (c.args.file.now.0.now, c.args.file.now.1))) (sym c.if-not-is_at.false ∙ c.is_at.ensures)
    ∙ bytes_newest c.args.base.now c.args.notes.now c.in-Some.past.now c.in-Some.note.now (c.args.file.now.0.now, c.args.file.now.1) None (Some (c.in-Some-appended.path.now, c.in-Some-appended.bytes.now))
    c.in-Some.ensures.cases.0 c.in_default-made_by.ensures c.in-Some-appended.ensures
