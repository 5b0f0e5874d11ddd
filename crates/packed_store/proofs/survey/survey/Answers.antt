use Rattle.std.proofs.Common.{◌<◌, ◌+◌, ℕ, ◌∷◌, List, Vec, Global, length, drop, map as each, subst, sym, ap, ◌∙◌, arith}
use Rattle.std.proofs.lemmas.List.{drop_more}
use Rattle.devices.specs.Device.{files_of}
use Rattle.packed_store.specs.Opening.{Adds, AreNumbersWithin, Surveys}
use Rattle.packed_store.specs.Place.{IsNumbered}
use Rattle.packed_store.specs.Survey.{shown_in}
use Rattle.packed_store.proofs.CountLemmas.{between}
use Rattle.packed_store.proofs.survey.survey.Goals as goal

pub loop-called-init : goal.loop-called-init
loop-called-init g c =
    let files = files_of (g.D.Device.past c.args.device.now) in
    let shown = shown_in c.args.found.now.live.entries c.args.found.now.pending.entries in (
      (λ honest torn. let never : ⊥ = cc in absurd never),
      (λ honest all. all),
      (λ honest last surveys. subst (λ (names : List (List ℕ)). Surveys files names shown last)
          (ap (λ (xs : List (Vec ℕ Global)). each (λ called. called.items) xs) c.deref-called-items.ensures.value ∙ c.in_ok-listing.ensures honest) surveys),
      (λ honest lo hi low high all. subst (λ (names : List (List ℕ)). AreNumbersWithin names lo hi)
          (ap (λ (xs : List (Vec ℕ Global)). each (λ called. called.items) xs) c.deref-called-items.ensures.value ∙ c.in_ok-listing.ensures honest) all),
      (λ torn. let never : ⊥ = cc in absurd never),
    )

pub loop-called-preserved : goal.loop-called-preserved
loop-called-preserved g c =
    let so_far = c.loop-called.invariant in
    let files = files_of (g.D.Device.past c.args.device.now) in
    let old = shown_in c.loop-called.found.live.entries c.loop-called.found.pending.entries in
    let new = shown_in c.survey_called.new.found.live.entries c.survey_called.new.found.pending.entries in
    let within : c.loop-called.called-index < length c.deref-called-items.result.now = omega (arith, c.loop-called-test.true) in (
      (λ honest. c.last_of-last.ensures.counted files (so_far.0 honest) (c.in_ok-next.ensures.last honest)),
      (λ honest all. c.in_ok-next.ensures.written honest (so_far.1 honest all)),
      (λ honest last surveys. so_far.2 honest last
          (subst (λ (xs : List (Vec ℕ Global)). Surveys files (each (λ called. called.items) xs) old last)
          (sym (drop_more c.deref-called-items.result.now c.loop-called.called-index c.called-item.result within ∙ ap (λ (v : Vec ℕ Global). v ∷ drop (c.loop-called.called-index + 1) c.deref-called-items.result.now) (sym c.called-item.is))) (
            new,
            subst (λ (bytes : List ℕ). Adds files bytes old new) c.as_slice.ensures.value (c.in_ok-next.ensures.adds honest),
            surveys,
          ))),
      (λ honest lo hi low high all. so_far.3 honest lo hi (omega (arith, low, c.first_of-first.ensures.least)) (omega (arith, high, c.last_of-last.ensures.most))
          (subst (λ (xs : List (Vec ℕ Global)). AreNumbersWithin (each (λ called. called.items) xs) lo hi)
          (sym (drop_more c.deref-called-items.result.now c.loop-called.called-index c.called-item.result within ∙ ap (λ (v : Vec ℕ Global). v ∷ drop (c.loop-called.called-index + 1) c.deref-called-items.result.now) (sym c.called-item.is))) (
            (λ n numbered. between c.in_ok-next.next n lo hi c.first_of-first.result c.last_of-last.result.segment (c.in_ok-next.ensures.called n (subst (λ (bytes : List ℕ). IsNumbered bytes n) (sym c.as_slice.ensures.value) numbered)) c.first_of-first.ensures.within c.last_of-last.ensures.within low high),
            all,
          ))),
      c.last_of-last.ensures.begun so_far.4 c.in_ok-next.ensures.begun,
    )

pub returns-clause-ahead : goal.returns-clause-ahead
returns-clause-ahead g c n from some = omega (arith, from, some, c.min-first.ensures, c.max.ensures)
