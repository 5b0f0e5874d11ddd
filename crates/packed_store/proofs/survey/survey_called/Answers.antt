use Rattle.std.proofs.Common.{refl, sym, ◌∙◌}
use Rattle.packed_store.specs.Opening.{Nothing, Records}
use Rattle.packed_store.specs.Taking.{seen_in}
use Rattle.packed_store.proofs.survey.survey_called.Goals as goal

pub returns-in_default-clause-adds : goal.returns-in_default-clause-adds
returns-in_default-clause-adds g c honest = Nothing c.in_default.ensures.none refl

pub returns-clause-adds : goal.returns-clause-adds
returns-clause-adds g c honest =
    let new = c.survey_segment.new.found in
    Records c.in-Some.segment (seen_in new.live.entries new.pending.entries new.is_damaged) c.in-Some.ensures.found (c.in_ok-last.ensures.reads honest) refl

pub returns-clause-called : goal.returns-clause-called
returns-clause-called g c n numbered = (c.in_ok-last.last, refl, c.in_ok-last.ensures.segment ∙ sym c.in-Some.ensures.found.2 ∙ numbered.2)

pub returns-in_default-clause-called : goal.returns-in_default-clause-called
returns-in_default-clause-called g c n numbered = absurd (c.in_default.ensures.none n numbered)
