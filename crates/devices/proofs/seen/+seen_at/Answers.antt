use Rattle.std.proofs.Common.{option_and_then, ◌∙◌, sym, ap}
use Rattle.devices.specs.Crash.{names_after}
use Rattle.devices.specs.Note.{effects_of}
use Rattle.devices.proofs.NameLemmas.{one_text, seen_after, seen_off, seen_written}
use Rattle.devices.proofs.seen.+seen_at.Goals as goal

pub returns-then-not-touches : goal.returns-then-not-touches
returns-then-not-touches t c =
    seen_off c.args.base.now c.args.notes.now c.in-Some.past.now c.in-Some.note.now c.args.path.now _ c.in-Some.ensures.cases.0 (sym c.touches.ensures ∙ c.if-not-touches.true) c.seen_at.ensures

pub returns-in_default-source : goal.returns-in_default-source
returns-in_default-source t c =
    seen_written c.args.base.now c.args.notes.now c.in-Some.past.now c.in-Some.note.now c.args.path.now _ c.in-Some.ensures.cases.0 c.in_default-source.ensures (sym c.touches.ensures ∙ c.if-not-touches.false) c.changed_at.ensures

pub returns-then-eq : goal.returns-then-eq
returns-then-eq t c =
    let same = one_text c.in-Some-source.source.now c.args.path.now (sym c.eq.ensures ∙ c.if-eq.true) in
    seen_after c.args.base.now c.args.notes.now c.in-Some.past.now c.in-Some.note.now c.args.path.now _ _ _ c.in-Some.ensures.cases.0
    (c.seen_at-before.ensures ∙ ap (names_after c.args.base.now (effects_of c.in-Some.past.now)) (sym same)
    ∙ ap (option_and_then (names_after c.args.base.now (effects_of c.in-Some.past.now))) c.in-Some-source.ensures) c.seen_at-before.ensures c.changed_at-then-eq.ensures
