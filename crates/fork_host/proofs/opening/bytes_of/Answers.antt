use Rattle.std.proofs.Common.{◌≡◌, ◌++◌, ℕ, List, ap, inr, map, refl, rules, sym, ◌∙◌}
use Rattle.std.specs.Prelude.{replicate}
use Rattle.std.proofs.lemmas.Result.{err_from_is_err_and}
use Rattle.git_name.specs.Object.{Object}
use Rattle.push_stream.specs.Reading.{reading_of}
use Rattle.push_stream.specs.Spelling.{records_of}
use Rattle.push_stream.specs.Stream.{sent_in, stream_of}
use Rattle.fork_model.specs.Uploads.{object_sent}
use Rattle.fork_host.specs.Handle.{staged_by}
use Rattle.fork_host.proofs.OpeningLemmas.{reads_none, reads_quiet, same_upload, text_is, told_of, told_records, told_there}
use Rattle.fork_host.proofs.opening.bytes_of.Goals as goal

pub add_records-requires : goal.add_records-requires
add_records-requires g c =
    let own = c.args.own.now in
    let came = c.requires.staged in
    record { there = told_there own.vault.now.honest came.0 c.args.upload.now.brief (staged_by own) c.sent.result.now came.1 c.sent.ensures }

pub returns-in-Ok-add_end-clause-opens : goal.returns-in-Ok-add_end-clause-opens
returns-in-Ok-add_end-clause-opens g c = λ bytes honest came.
    let staged = staged_by c.args.own.now in
    let reading = c.args.upload.now.brief in
    let again = c.again-again.result in
    let sent = c.sent.result.now in
    let text = c.add_end.new.bytes.items in
    let objects : List Object = sent_in (stream_of bytes) in
    let end : List ℕ = again.tail.now ++ replicate again.zeros 0 in
    let are = c.streams_hold_objects.ensures.whole bytes in
    let within = c.streams_hold_objects.ensures.within bytes in
    let told = told_of bytes reading came.read in
    let header : c.in-Ok.bytes.items ≡ again.header.now = search rules in
    let is : text ≡ again.header.now ++ (records_of objects ++ end) =
    text_is c.in-Ok.bytes.items again.header.now (records_of (map (object_sent staged) sent)) (records_of objects) end c.add_records.new.bytes.items text
    header (told_records bytes reading staged sent came.read (came.exact honest) c.sent.ensures) (c.in_ok-add_records.ensures.added honest) c.in-Ok-add_end.ensures in
    let read : reading_of text ≡ reading = ap reading_of is ∙ c.again-again.ensures.read objects are within told in
    same_upload text bytes staged (came.exact honest) (read ∙ sym came.read) (ap (λ (l : List ℕ). sent_in (stream_of l)) is ∙ c.again-again.ensures.sent objects are within told)

pub returns-in_default-clause-reads : goal.returns-in_default-clause-reads
returns-in_default-clause-reads g c = reads_quiet c.args.own.now c.args.own.now _ (reads_none c.args.own.now) (inr refl)

pub returns-in_err-add_records-clause-reads : goal.returns-in_err-add_records-clause-reads
returns-in_err-add_records-clause-reads g c =
    let told = err_from_is_err_and c.from_residual.result c.from_residual.ensures.1 in
    rw (told.1, told.2) c.in_err-add_records.ensures.reads

pub returns-in-Err-clause-reads : goal.returns-in-Err-clause-reads
returns-in-Err-clause-reads g c = reads_quiet c.args.own.now c.add_records.new.own _ c.in_ok-add_records.ensures.reads (inr refl)
