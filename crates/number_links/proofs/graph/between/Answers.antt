use Rattle.std.proofs.Common.{◌≡◌, ℕ, true, inl, inr}
use Rattle.std.proofs.lemmas.Result.{IfOk-weaker}
use Rattle.number_links.specs.Numbers.{has}
use Rattle.number_links.specs.Facts.{goes_on}
use Rattle.number_links.specs.Known.{RestsOrIsKnown}
use Rattle.number_links.specs.declared.along.Along.TheVariants.{Links}
use Rattle.number_links.proofs.OptionLemmas.{found_both, none_too, some_is}
use Rattle.number_links.proofs.PastLemmas.{IsBeyond, between_all, between_only, in_either, past_reached}
use Rattle.number_links.proofs.graph.between.Goals as goal

pub returns-clause-found : goal.returns-clause-found
returns-clause-found g c =
    let next = goes_on Links (record { links = c.args.links.now; times = c.args.times.now }) in
    let allowed = has c.args.allowed.now in
    let beyond = has c.in-Some.beyond in
    let is : IsBeyond next allowed c.args.excluded.now beyond = record { only = some_is c.in_ok-beyond.field-0 c.in-Some.beyond _ c.in-Some.is c.in_ok-beyond.ensures.only; all = some_is c.in_ok-beyond.field-0 c.in-Some.beyond _ c.in-Some.is c.in_ok-beyond.ensures.all } in
    found_both c.walk.result _ _ _ (λ set only all n. (
      λ there. between_only next allowed beyond c.args.wanted.now c.args.excluded.now is n (only n there),
      λ both. all n (between_all next allowed beyond c.args.wanted.now c.args.excluded.now is n both.0 both.1),
    )) c.walk.ensures.only c.walk.ensures.all

pub returns-clause-known : goal.returns-clause-known
returns-clause-known g c =
    let rests = g.R.Resting.rests c.args.resting.now in
    let links = c.args.links.now in
    let next = goes_on Links (record { links = links; times = c.args.times.now }) in
    let allowed = has c.args.allowed.now in
    let beyond = has c.in-Some.beyond in
    let is : IsBeyond next allowed c.args.excluded.now beyond = record { only = some_is c.in_ok-beyond.field-0 c.in-Some.beyond _ c.in-Some.is c.in_ok-beyond.ensures.only; all = some_is c.in_ok-beyond.field-0 c.in-Some.beyond _ c.in-Some.is c.in_ok-beyond.ensures.all } in
    found_both c.walk.result _ _ _ (λ set all clear n reached. elim (in_either next allowed beyond c.args.wanted.now c.args.excluded.now is n reached) as (λ _. RestsOrIsKnown links rests n) [
      | inl out ↦ some_is c.in_ok-beyond.field-0 c.in-Some.beyond (λ found. (m : ℕ) → has found m ≡ true → RestsOrIsKnown links rests m) c.in-Some.is c.in_ok-beyond.ensures.known n out
      | inr past_it ↦ clear n (all n past_it)
    ]) c.walk.ensures.all c.walk.ensures.known

pub returns-clause-unknown : goal.returns-clause-unknown
returns-clause-unknown g c =
    let next = goes_on Links (record { links = c.args.links.now; times = c.args.times.now }) in
    let allowed = has c.args.allowed.now in
    let beyond = has c.in-Some.beyond in
    IfOk-weaker c.walk.result _ _ (λ r unknown. none_too r _ _ (λ u. inl (u.0, (past_reached next allowed beyond c.args.wanted.now u.0 u.1).0, u.2, u.3)) unknown) c.walk.ensures.unknown
