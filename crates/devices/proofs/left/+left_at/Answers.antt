use Rattle.std.proofs.Common.{true, false, option_and_then, ◌∙◌, sym, ap, refl}
use Rattle.devices.specs.Crash.{names_after}
use Rattle.devices.specs.Loss.{kept_in, source_seen}
use Rattle.devices.specs.Note.{effect_of, effects_of}
use Rattle.devices.proofs.NameLemmas.{left_after, left_off, left_written}
use Rattle.devices.proofs.left.+left_at.Goals as goal

pub returns-then-not-touches : goal.returns-then-not-touches
returns-then-not-touches t c =
    left_off c.args.base.now (kept_in c.args.fates.now (effects_of c.args.whole.now)) c.args.notes.now c.in-Some.past.now c.in-Some.note.now c.args.path.now _ c.in-Some.ensures.cases.0 (sym c.touches.ensures ∙ c.if-not-touches.true) c.left_at.ensures

pub returns-then-not-is_kept : goal.returns-then-not-is_kept
returns-then-not-is_kept t c =
    left_after c.args.base.now (kept_in c.args.fates.now (effects_of c.args.whole.now)) c.args.notes.now c.in-Some.past.now c.in-Some.note.now c.args.path.now false
    (source_seen c.args.base.now (effects_of c.in-Some.past.now) (effect_of c.in-Some.note.now)) _ _ c.in-Some.ensures.cases.0
    (sym c.if-not-is_kept.true ∙ c.is_kept.ensures) refl c.left_at-then-not-is_kept.ensures refl

pub returns-in_default-source : goal.returns-in_default-source
returns-in_default-source t c =
    left_written c.args.base.now (kept_in c.args.fates.now (effects_of c.args.whole.now)) c.args.notes.now c.in-Some.past.now c.in-Some.note.now c.args.path.now _ c.in-Some.ensures.cases.0
    (sym c.if-not-is_kept.false ∙ c.is_kept.ensures) c.in_default-source.ensures (sym c.touches.ensures ∙ c.if-not-touches.false) c.changed_at.ensures

pub returns : goal.returns
returns t c =
    left_after c.args.base.now (kept_in c.args.fates.now (effects_of c.args.whole.now)) c.args.notes.now c.in-Some.past.now c.in-Some.note.now c.args.path.now true _ _ _ c.in-Some.ensures.cases.0
    (sym c.if-not-is_kept.false ∙ c.is_kept.ensures)
    (c.seen_at-file.ensures ∙ ap (option_and_then (names_after c.args.base.now (effects_of c.in-Some.past.now))) c.in-Some-source.ensures) c.left_at-before.ensures c.changed_at-2.ensures
