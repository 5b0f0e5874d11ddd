use Rattle.std.proofs.Common.{◌≡◌, Bool, IsTrue, true, option_map, sym, subst, ◌∙◌, ap}
use Rattle.devices.specs.Device.{Files, files_of}
use Rattle.packed_store.specs.Place.{AreRecorded, Index, bytes_at, index_of}
use Rattle.packed_store.specs.Stored.{AllWritten, AreWritten}
use Rattle.std.specs.FinMap.{get}
use Rattle.packed_store.proofs.ContentLemmas.{found_at}
use Rattle.packed_store.proofs.StoredLemmas.{all_recorded, nothing_written, opened_written, shown_written}
use Rattle.git_name.specs.Maps.{map_values}
use Rattle.packed_store.specs.Contents.{contents_in}
use Rattle.packed_store.specs.Opening.{Surveys, listed}
use Rattle.packed_store.specs.Survey.{Shown, opened, shown_in}
use Rattle.packed_store.proofs.WithinLemmas.{within_listed}
use Rattle.packed_store.proofs.segments.Segments.resumed.Goals as goal

pub invariant_of-result : goal.invariant_of-result
invariant_of-result g c = record {
  there = λ honest.
      let first : IsTrue (g.D.Device.honest c.args.device) = sym (ap g.D.Device.honest c.in_ok-log.ensures) ∙ honest in
      let files = files_of (g.D.Device.past c.args.device) in
      let same : files_of (g.D.Device.past c.in_ok-log.log.device) ≡ files = ap (λ d. files_of (g.D.Device.past d)) c.in_ok-log.ensures in
      let shown = shown_in c.survey.new.found.live.entries c.survey.new.found.pending.entries in
      let all : AllWritten files shown = c.in_ok-extent.ensures.written first (subst (AllWritten files) (sym c.new-found.ensures) (nothing_written files)) in
      subst (λ (i : Index). AreRecorded (files_of (g.D.Device.past c.in_ok-log.log.device)) i) (sym (c.put_in_order.ensures ∙ c.in_ok-undo.ensures.live))
      (subst (λ (f : Files). AreRecorded f (opened shown)) (sym same) (all_recorded files (opened shown) (opened_written files shown all)));
}

pub returns-clause-shows : goal.returns-clause-shows
returns-clause-shows g c first name bytes shows =
    let files = files_of (g.D.Device.past c.args.device) in
    let log = c.in_ok-log.log in
    let index = index_of c.put_in_order.new.index.entries in
    let shown = shown_in c.survey.new.found.live.entries c.survey.new.found.pending.entries in
    let same : files_of (g.D.Device.past log.device) ≡ files = ap (λ d. files_of (g.D.Device.past d)) c.in_ok-log.ensures in
    let honest : g.D.Device.honest log.device ≡ true = ap g.D.Device.honest c.in_ok-log.ensures ∙ first in
    let all : AllWritten files shown = c.in_ok-extent.ensures.written first (subst (AllWritten files) (sym c.new-found.ensures) (nothing_written files)) in
    let written : AreWritten files index = subst (λ (i : Index). AreWritten files i) (sym (c.put_in_order.ensures ∙ c.in_ok-undo.ensures.live)) (opened_written files shown all) in
    shown_written files index name bytes written
    (sym (ap (λ (f : Files). option_map (bytes_at f) (get index name)) same) ∙ sym (found_at (g.D.Device.honest log.device) (g.D.Device.past log.device) index name honest) ∙ shows)

pub returns-clause-exact : goal.returns-clause-exact
returns-clause-exact g c first =
    let files = files_of (g.D.Device.past c.args.device) in
    let log = c.in_ok-log.log in
    let index = index_of c.put_in_order.new.index.entries in
    let shown = shown_in c.survey.new.found.live.entries c.survey.new.found.pending.entries in
    let same : files_of (g.D.Device.past log.device) ≡ files = ap (λ d. files_of (g.D.Device.past d)) c.in_ok-log.ensures in
    let honest : g.D.Device.honest log.device ≡ true = ap g.D.Device.honest c.in_ok-log.ensures ∙ first in
    record {
      shown = shown;
      surveys = subst (λ (old : Shown). Surveys files (listed files) old shown) c.new-found.ensures (c.in_ok-extent.ensures.surveys first);
      shows =
          ap (λ (d : Bool). contents_in d (g.D.Device.past log.device) index) honest ∙ ap (λ (f : Files). map_values (bytes_at f) index) same
          ∙ ap (map_values (bytes_at files)) (c.put_in_order.ensures ∙ c.in_ok-undo.ensures.live);
    }

pub resume-requires-clause-within : goal.resume-requires-clause-within
resume-requires-clause-within g c honest =
    within_listed (files_of (g.D.Device.past c.args.device)) c.in_ok-extent.extent.first c.in_ok-extent.extent.last.segment (c.in_ok-extent.ensures.within honest)
