use Rattle.std.proofs.Common.{List, ℕ, ◌≡◌, ◌++◌, ◌∷◌, [], codes, map, ◌∙◌, ap, refl}
use Rattle.std.specs.FinMap.{entries}
use Rattle.std.specs.List.{flat_map}
use Rattle.std.proofs.lemmas.Result.{on_ok_weaker}
use Rattle.hex.specs.Hex.{encode_lower}
use Rattle.git_name.specs.Text.{ended}
use Rattle.git_reftx.specs.Transaction.{References}
use Rattle.git_refname.specs.Namespace.{expanded}
use Rattle.state_text.specs.declared.version.Version.TheVariants.{Two}
use Rattle.state_text.specs.Text.{inner_lines}
use Rattle.state_text.proofs.WritingLemmas.{both_put, line_settled}
use Rattle.state_text.proofs.writing.put_inner.Goals as goal

pub returns-clause-puts : goal.returns-clause-puts
returns-clause-puts g c =
    let head : c.as_bytes-head.result.now ≡ c.args.repository.now.head = c.as_bytes-head.ensures.bytes ∙ c.name.ensures.name ∙ c.head.ensures in
    let prefix = c.in_ok-prefix.ensures ∙ (λ i. expanded (c.as_bytes.ensures.bytes i ∷ c.as_bytes-2.ensures.bytes i ∷ [])) in
    let first : c.as_slice.result.now ≡ expanded (c.args.tenant.now ∷ c.args.name.now ∷ []) = c.as_slice.ensures.value ∙ prefix in
    let then : c.as_slice-2.result.now ≡ expanded (c.args.tenant.now ∷ c.args.name.now ∷ []) = c.as_slice-2.ensures.value ∙ prefix in
    let grown = record c.args.waiting.now { lines = c.put_head.new.out } in
    let line = ended (codes "head " ++ c.as_slice.result.now ++ c.as_bytes-head.result.now) in
    let lines : List ℕ → References → List ℕ = λ prefix refs. flat_map ended (map (λ r. codes "ref " ++ encode_lower r.1 ++ codes " " ++ prefix ++ r.0) (entries refs)) in
    on_ok_weaker c.put_references.result (λ put. both_put (g.W.Sink.contents c.args.writer.now) (g.W.Sink.contents c.settle.new.writer) (g.W.Sink.contents c.put_references.new.writer) c.args.waiting.now c.settle.new.self c.put_references.new.waiting
    line (lines c.as_slice-2.result.now c.references.result.now) (flat_map ended (inner_lines Two c.args.tenant.now c.args.name.now c.args.repository.now))
    (line_settled (g.W.Sink.contents c.args.writer.now) (g.W.Sink.contents c.settle.new.writer) c.args.waiting.now grown c.settle.new.self line refl c.in_ok-put_head.ensures c.in_ok-settle.ensures.puts) put
    (λ i. ended (codes "head " ++ first i ++ head i) ++ lines (then i) (c.references.ensures.references i))) c.put_references.ensures.puts
