use Rattle.std.proofs.Common.{◌≡◌, ◌≢◌, Some, ap, sym, ◌∙◌}
use Rattle.std.specs.FinMap as map
use Rattle.std.proofs.lemmas.Bool.Decides.{Decides-eqb}
use Rattle.std.proofs.lemmas.Result.{on_ok_weaker}
use Rattle.std.proofs.lemmas.Slice.Eq.{slice_eq-Decides}
use Rattle.devices.proofs.TreeLemmas.{renamed_none, renamed_other, renamed_same}
use Rattle.devices.proofs.memory.rename_in.Goals as goal

pub returns-in_default-clause-ok : goal.returns-in_default-clause-ok
returns-in_default-clause-ok c = on_ok_weaker c.add.result (λ is. (is, renamed_none c.args.files.now c.args.from.now c.args.to c.in_default.ensures)) c.add.ensures.ok

pub returns-then-eq-clause-ok : goal.returns-then-eq-clause-ok
returns-then-eq-clause-ok c =
    let bytes : Some c.in_ok-bytes.bytes ≡ map.get c.args.files.now c.args.from.now = ap Some (c.in_ok-bytes.ensures ∙ c.as_bytes.ensures) ∙ c.in-Some.ensures in
    let same : c.args.to ≡ c.args.from.now = (slice_eq-Decides Decides-eqb c.args.to c.args.from.now c.eq.result c.eq.ensures).0 c.if-eq.true in
    on_ok_weaker c.add_with.result (λ is. (is.0, is.1 ∙ renamed_same c.args.files.now c.args.from.now c.args.to c.in_ok-bytes.bytes same bytes)) c.add_with.ensures.ok

pub returns-clause-ok : goal.returns-clause-ok
returns-clause-ok c =
    let bytes : Some c.in_ok-bytes.bytes ≡ map.get c.args.files.now c.args.from.now = ap Some (c.in_ok-bytes.ensures ∙ c.as_bytes.ensures) ∙ c.in-Some.ensures in
    let differ : c.args.to ≢ c.args.from.now = λ same. cc (sym c.if-eq.false ∙ (slice_eq-Decides Decides-eqb c.args.to c.args.from.now c.eq.result c.eq.ensures).1 same) in
    (c.in_ok-add_with.ensures.ok.0, c.remove.ensures ∙ ap (λ m. map.remove m c.args.from.now) c.in_ok-add_with.ensures.ok.1 ∙ renamed_other c.args.files.now c.args.from.now c.args.to c.in_ok-bytes.bytes differ bytes)
