use Rattle.std.proofs.Common.{refl, sym, ap, ◌∙◌}
use Rattle.std.specs.FinMap.{get}
use Rattle.git_name.specs.Maps.{joined}
use Rattle.git_name.proofs.MapLemmas.{joined_empty}
use Rattle.git_name.proofs.Names.{name_total, name_exact}
use Rattle.packed_store.specs.Place.{Index, index_of}
use Rattle.packed_store.specs.Survey.{restored}
use Rattle.packed_store.proofs.SurveyLemmas.{restore_step}
use Rattle.packed_store.proofs.found.Found.undo.Goals as goal

pub loop-last-preserved : goal.loop-last-preserved
loop-last-preserved c =
    let live = index_of c.loop-last.self.live.entries in
    let pending = index_of c.loop-last.self.pending.entries in
    let now = restored live c.in-Some.last.0 c.in-Some.last.1 (get live c.in-Some.last.0) in (
      ap (λ (k : Index). joined k (index_of c.restore.new.self.pending.entries)) c.in_ok-restore.ensures.live
          ∙ ap (joined now) (ap index_of c.in_ok-restore.ensures.kept ∙ c.in-Some.ensures.rest)
          ∙ restore_step live pending c.in-Some.last.0 c.in-Some.last.1 (get live c.in-Some.last.0) refl c.in-Some.ensures.found
          ∙ c.loop-last.invariant.0,
      c.restore.ensures.same ∙ c.loop-last.invariant.1,
    )

pub returns-clause-pending : goal.returns-clause-pending
returns-clause-pending c = c.in_default.ensures.gone

pub returns-clause-live : goal.returns-clause-live
returns-clause-live c =
    let live = index_of c.loop-last.self.live.entries in
    sym (joined_empty name_total name_exact live) ∙ ap (joined live) (sym c.in_default.ensures.none) ∙ c.loop-last.invariant.0

pub returns-in_err-restore-clause-same : goal.returns-in_err-restore-clause-same
returns-in_err-restore-clause-same c = c.restore.ensures.same ∙ c.loop-last.invariant.1

pub returns-clause-same : goal.returns-clause-same
returns-clause-same c = c.loop-last.invariant.1
