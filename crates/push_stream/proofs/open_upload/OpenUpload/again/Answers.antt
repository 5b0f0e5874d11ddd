use Rattle.std.proofs.Common.{◌≡◌, ◌++◌, ◌+◌, ◌≤◌, subst, List, ℕ, ap, ap₂, sym, ◌∙◌, is_some, length, take, true}
use Rattle.std.specs.Prelude.{replicate}
use Rattle.push_stream.specs.declared.again.TheConstants.{MAX_HEADER}
use Rattle.push_stream.specs.Again.{told_in}
use Rattle.push_stream.specs.OpenUpload.{OpenUploadValue, reading_kept}
use Rattle.push_stream.specs.Reading.{reading_of}
use Rattle.push_stream.specs.Spelling.{records_of}
use Rattle.push_stream.specs.Stream.{sent_in, stream_of}
use Rattle.push_stream.proofs.OpeningLemmas.{opened_again, opens_short, sent_again}
use Rattle.push_stream.proofs.open_upload.OpenUpload.again.Goals as goal

pub returns-clause-read : goal.returns-clause-read
returns-clause-read c = λ objects are within told.
    let draft = c.self.inside.draft in
    let kept = c.self.inside.kept in
    let zeros = c.missing-zeros.result in
    let header : length (take kept.header draft.header.items) ≡ length (take kept.header c.deref.result.now) = ap (λ (l : List ℕ). length (take kept.header l)) (sym c.deref.ensures.value) in
    let tail : length (take kept.bytes draft.bytes.items) ≡ length (take kept.bytes c.deref-2.result.now) = ap (λ (l : List ℕ). length (take kept.bytes l)) (sym c.deref-2.ensures.value) in
    let all = λ (broken : is_some kept.mark.fault ≡ true). ap₂ (λ (m n : ℕ). m + n + zeros) header tail ∙ c.missing-zeros.ensures.broken broken in
    ap₂ (λ (h t : List ℕ). reading_of (take kept.header h ++ (records_of objects ++ (take kept.bytes t ++ replicate zeros 0)))) c.deref.ensures.value c.deref-2.ensures.value
    ∙ opened_again (take kept.header draft.header.items) (take kept.bytes draft.bytes.items) zeros kept.mark.count (take kept.commands draft.commands.items) (take kept.sent draft.sent.items) kept.mark.headed (take kept.bytes draft.bytes.items) kept.mark.fault
    c.self.invariant.opens c.missing-zeros.ensures.going all objects are within (told ∙ ap (λ (v : OpenUploadValue). told_in v.brief.flow) (sym c.self.view_is))
    ∙ ap (λ (v : OpenUploadValue). v.brief) c.self.view_is

pub returns-clause-sent : goal.returns-clause-sent
returns-clause-sent c = λ objects are within told.
    let draft = c.self.inside.draft in
    let kept = c.self.inside.kept in
    let zeros = c.missing-zeros.result in
    ap₂ (λ (h t : List ℕ). sent_in (stream_of (take kept.header h ++ (records_of objects ++ (take kept.bytes t ++ replicate zeros 0))))) c.deref.ensures.value c.deref-2.ensures.value
    ∙ sent_again (take kept.header draft.header.items) (take kept.bytes draft.bytes.items) zeros kept.mark.count (take kept.commands draft.commands.items) (take kept.sent draft.sent.items) kept.mark.headed (take kept.bytes draft.bytes.items) kept.mark.fault
    c.self.invariant.opens c.missing-zeros.ensures.going objects are within (told ∙ ap (λ (v : OpenUploadValue). told_in v.brief.flow) (sym c.self.view_is))

pub returns-clause-short : goal.returns-clause-short
returns-clause-short c =
    let draft = c.self.inside.draft in
    let kept = c.self.inside.kept in
    let short = opens_short (take kept.header draft.header.items) (take kept.bytes draft.bytes.items) kept.mark.count (reading_kept kept draft).flow c.self.invariant.opens in
    subst (λ (l : List ℕ). length (take kept.header l) ≤ MAX_HEADER) (sym c.deref.ensures.value) short
