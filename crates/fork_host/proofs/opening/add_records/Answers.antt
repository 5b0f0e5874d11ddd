use Rattle.std.proofs.Common.{sym, ◌∙◌}
use Rattle.std.proofs.lemmas.List.{append-nil}
use Rattle.std.proofs.lemmas.Result.{err_from_is_err_and}
use Rattle.fork_host.specs.Handle.{staged_by}
use Rattle.fork_host.proofs.OpeningLemmas.{reads_none, reads_then, records_more, staged_still, still_there, there_at}
use Rattle.fork_host.proofs.opening.add_records.Goals as goal

pub loop-one-init : goal.loop-one-init
loop-one-init g c = record { reads = reads_none c.args.own.now; added = λ honest. sym (append-nil c.args.bytes.now.items) }

pub add_record-requires : goal.add_record-requires
add_record-requires g c =
    let first = c.args.own.now in
    let one = c.one-item.result in
    record { there = still_there first c.loop-one.own one.name c.loop-one.invariant.reads (there_at (staged_by first) c.args.sent.now c.loop-one.one-index one c.requires.there c.loop-one-test.true c.one-item.is) }

pub loop-one-preserved : goal.loop-one-preserved
loop-one-preserved g c =
    let before = c.loop-one.invariant in
    let first = c.args.own.now in
    let old = c.loop-one.own in
    record {
      reads = reads_then first old c.add_record.new.own _ before.reads c.in_ok-add_record.ensures.reads;
      added = λ honest.
          records_more (staged_by first) (staged_by old) c.args.sent.now c.loop-one.one-index c.one-item.result c.args.bytes.now.items c.loop-one.bytes.items c.add_record.new.bytes.items
          c.loop-one-test.true c.one-item.is (staged_still first old _ before.reads honest) (before.added honest) (c.in_ok-add_record.ensures.added (before.reads.bounded.honest ∙ honest));
    }

pub returns-in_err-add_record-clause-reads : goal.returns-in_err-add_record-clause-reads
returns-in_err-add_record-clause-reads g c =
    let told = err_from_is_err_and c.from_residual.result c.from_residual.ensures.1 in
    rw (told.1, told.2) (reads_then c.args.own.now c.loop-one.own c.add_record.new.own _ c.loop-one.invariant.reads c.in_err-add_record.ensures.reads)
