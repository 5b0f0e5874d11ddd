use Rattle.std.proofs.Common.{Some, List, ℕ, Vec, Global, option_map, ap, sym, ◌∙◌}
use Rattle.std.proofs.lemmas.Result.{on_ok_weaker}
use Rattle.devices.specs.Device.{files_of}
use Rattle.packed_store.proofs.JoinLemmas.{part_count, part_reads, window_ends, window_size}
use Rattle.packed_store.specs.Place.{segment_of}
use Rattle.packed_store.proofs.StoredLemmas.{part_read}
use Rattle.packed_store.proofs.survey.take_next.Goals as goal

pub returns-clause-written : goal.returns-clause-written
returns-clause-written g c honest =
    let files = files_of (g.D.Device.past c.args.device.now) in
    let found = ap Some c.as_slice.ensures.value ∙ sym (ap (option_map {T = Vec ℕ Global} {U = List ℕ} (λ bytes. bytes.items)) c.in-Some.is) ∙ c.in_ok-bytes.ensures honest in
    let part = part_read files c.args.segment c.as_str.result.now c.as_slice.result.now c.args.at _ (c.as_str.ensures.value ∙ c.in_ok-path.ensures) found in
    on_ok_weaker c.take_window.result (λ window. window files part) c.take_window.ensures.written

pub returns-clause-reads : goal.returns-clause-reads
returns-clause-reads g c honest =
    let files = files_of (g.D.Device.past c.args.device.now) in
    let found = ap Some c.as_slice.ensures.value ∙ sym (ap (option_map {T = Vec ℕ Global} {U = List ℕ} (λ bytes. bytes.items)) c.in-Some.is) ∙ c.in_ok-bytes.ensures honest in
    let part = part_read files c.args.segment c.as_str.result.now c.as_slice.result.now c.args.at _ (c.as_str.ensures.value ∙ c.in_ok-path.ensures) found in
    part_reads files c.args.segment c.args.at c.as_slice.result.now part _ _ c.take_window.result c.take_window.ensures.reads

pub returns-clause-ends : goal.returns-clause-ends
returns-clause-ends g c honest counted =
    let files = files_of (g.D.Device.past c.args.device.now) in
    let found = ap Some c.as_slice.ensures.value ∙ sym (ap (option_map {T = Vec ℕ Global} {U = List ℕ} (λ bytes. bytes.items)) c.in-Some.is) ∙ c.in_ok-bytes.ensures honest in
    let part = part_read files c.args.segment c.as_str.result.now c.as_slice.result.now c.args.at _ (c.as_str.ensures.value ∙ c.in_ok-path.ensures) found in
    window_ends files c.args.segment c.args.at c.as_slice.result.now part _ c.take_window.result
    (window_size c.window_at-size.result c.args.end c.args.at _ (segment_of files c.args.segment) (part_count _ c.as_slice.result.now c.args.at c.window_at-size.result found) c.window_at-size.ensures.long counted) c.take_window.ensures.ends
