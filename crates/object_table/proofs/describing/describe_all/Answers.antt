use Rattle.std.proofs.Common.{◌≡◌, true, ap, sym, subst, ◌∙◌, arith, take, slice_index_or}
use Rattle.std.specs.Prelude.{Contains}
use Rattle.std.specs.List.{All}
use Rattle.std.proofs.lemmas.List.{take_all}
use Rattle.std.proofs.lemmas.Result.{err_from_is_err_and}
use Rattle.git_name.specs.Same.{is_listed}
use Rattle.looks.specs.Places.{Places}
use Rattle.object_table.specs.Clashes.{HasRow}
use Rattle.object_table.specs.declared.entry.Entry.{Entry}
use Rattle.object_table.specs.Rows.{places_of}
use Rattle.object_table.proofs.DescribeLemmas.{IsDescribed, described_now, described_still, described_then, all_listed, row_before, row_clash, unlisted}
use Rattle.object_table.proofs.StepLemmas.{all_more}
use Rattle.object_table.proofs.describing.describe_all.Goals as goal

pub loop-entry-preserved : goal.loop-entry-preserved
loop-entry-preserved c =
    let first = c.args.table.now.entries in
    let mid = c.loop-entry.table.entries in
    let new = c.describe.new.table.entries in
    let entries = c.args.entries.now in
    let entry = c.entry-item.result in
    let was = c.loop-entry.invariant in
    let among : Contains entries entry = (c.loop-entry.entry-index, omega arith, sym c.entry-item.is) in
    record {
      places = c.describe.ensures.places ∙ was.places;
      describes = described_then first mid new was.describes c.describe.ensures.describes;
      described = all_more (IsDescribed first new entries) entries c.loop-entry.entry-index entry (omega arith) c.entry-item.is
          (λ k d small. described_still first mid new entries entry (slice_index_or (take c.loop-entry.entry-index entries) k d) was.describes among c.describe.ensures.others c.describe.ensures.row (was.described k d small))
          (described_now first mid new entries entry was.describes among c.describe.ensures.row);
    }

pub loop-entry-2-init : goal.loop-entry-2-init
loop-entry-2-init c = record {
  places = c.loop-entry.invariant.places;
  describes = c.loop-entry.invariant.describes;
  described = subst (λ es. All (IsDescribed c.args.table.now.entries c.loop-entry.table.entries c.args.entries.now) es) (take_all c.loop-entry.entry-index c.args.entries.now (omega arith)) c.loop-entry.invariant.described;
  rows = λ k d small. absurd (omega (arith, small));
}

pub returns-in_err-check_row-clause-clash : goal.returns-in_err-check_row-clause-clash
returns-in_err-check_row-clause-clash c =
    let first = c.args.table.now.entries in
    let now = c.loop-entry-2.invariant in
    let entry = c.entry-item-in-loop-entry-2.result in
    let same = c.entry-item-in-loop-entry-2.is in
    let told = err_from_is_err_and c.from_residual.result c.from_residual.ensures.1 in
    rw (told.1, told.2) (λ is.
    let there = c.in_err-check_row.ensures.lacks is in
    let row = row_before first c.loop-entry.table.entries entry.name there.0 now.describes there.1 in
    row_clash first c.loop-entry.table.entries c.args.entries.now entry row.0 row.1 (c.loop-entry-2.entry-index, omega arith, sym same) now.describes
    (subst (IsDescribed first c.loop-entry.table.entries c.args.entries.now) (sym same) (now.described c.loop-entry-2.entry-index entry (omega arith))) there.2)

pub returns-in_err-check_row-clause-unlisted : goal.returns-in_err-check_row-clause-unlisted
returns-in_err-check_row-clause-unlisted c =
    let entry = c.entry-item-in-loop-entry-2.result in
    let told = err_from_is_err_and c.from_residual.result c.from_residual.ensures.1 in
    rw (told.1, told.2) (λ is listed.
    let there = subst (λ (e : Entry). is_listed (places_of c.args.table.now).names e.name ≡ true) (sym c.entry-item-in-loop-entry-2.is) (listed c.loop-entry-2.entry-index entry (omega arith)) in
    let wrong : ⊥ = cc (sym there ∙ unlisted c.loop-entry.table.entries (places_of c.args.table.now) entry.name (ap (λ (p : Places). p.names) (sym c.loop-entry-2.invariant.places)) (c.in_err-check_row.ensures.none is)) in wrong)

pub loop-entry-2-preserved : goal.loop-entry-2-preserved
loop-entry-2-preserved c = record {
  places = c.loop-entry-2.invariant.places;
  describes = c.loop-entry-2.invariant.describes;
  described = c.loop-entry-2.invariant.described;
  rows = all_more (HasRow c.loop-entry.table.entries) c.args.entries.now c.loop-entry-2.entry-index c.entry-item-in-loop-entry-2.result (omega arith) c.entry-item-in-loop-entry-2.is c.loop-entry-2.invariant.rows c.in_ok-check_row.ensures.has;
}

pub returns-clause-rows : goal.returns-clause-rows
returns-clause-rows c =
    subst (λ es. All (HasRow c.loop-entry.table.entries) es) (take_all c.loop-entry-2.entry-index c.args.entries.now (omega arith)) c.loop-entry-2.invariant.rows

pub returns-clause-listed : goal.returns-clause-listed
returns-clause-listed c =
    all_listed c.loop-entry.table.entries (places_of c.args.table.now) c.args.entries.now (ap (λ (p : Places). p.names) (sym c.loop-entry-2.invariant.places))
    (subst (λ es. All (HasRow c.loop-entry.table.entries) es) (take_all c.loop-entry-2.entry-index c.args.entries.now (omega arith)) c.loop-entry-2.invariant.rows)
