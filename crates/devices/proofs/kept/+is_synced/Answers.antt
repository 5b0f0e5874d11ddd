use Rattle.std.proofs.Common.{true, false, ◌∙◌, sym, arith, refl}
use Rattle.devices.specs.Note.{effect_of}
use Rattle.devices.proofs.NameLemmas.{is_late, is_early, synced_after}
use Rattle.devices.proofs.kept.+is_synced.Goals as goal

pub returns-then-past-place : goal.returns-then-past-place
returns-then-past-place t c =
    sym (synced_after c.args.whole.now c.in-Some.past.now c.in-Some.newest.now (effect_of c.args.note.now) c.args.place true _ c.in-Some.ensures.cases.0
    (sym (is_late _ _ (omega (arith, c.if-past-place.true)))) refl)

pub returns-then-keeps : goal.returns-then-keeps
returns-then-keeps t c =
    sym (synced_after c.args.whole.now c.in-Some.past.now c.in-Some.newest.now (effect_of c.args.note.now) c.args.place false true c.in-Some.ensures.cases.0
    (sym (is_early _ _ (omega (arith, c.if-past-place.false)))) (sym c.if-keeps.true ∙ c.keeps.ensures))

pub returns : goal.returns
returns t c =
    c.is_synced.ensures
    ∙ sym (synced_after c.args.whole.now c.in-Some.past.now c.in-Some.newest.now (effect_of c.args.note.now) c.args.place false false c.in-Some.ensures.cases.0
    (sym (is_early _ _ (omega (arith, c.if-past-place.false)))) (sym c.if-keeps.false ∙ c.keeps.ensures))
