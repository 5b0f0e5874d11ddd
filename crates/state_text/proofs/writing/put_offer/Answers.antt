use Rattle.std.proofs.Common.{List, ℕ, ◌++◌, ◌∙◌, refl, subst}
use Rattle.std.specs.List.{flat_map}
use Rattle.std.proofs.lemmas.Result.{on_ok_weaker}
use Rattle.git_name.specs.Text.{ended}
use Rattle.git_reftx.specs.Repository as git
use Rattle.state_text.specs.declared.version.Version.TheVariants.{Two}
use Rattle.state_text.specs.Text.{inner_lines, offer_line, offer_lines}
use Rattle.state_text.proofs.WritingLemmas.{line_then}
use Rattle.state_text.proofs.writing.put_offer.Goals as goal

pub returns-clause-puts : goal.returns-clause-puts
returns-clause-puts g c =
    let grown = record c.args.waiting.now { lines = c.put_offer_line.new.out } in
    let offer = c.args.offer.now in
    let inner : List ℕ → git.Repository → List ℕ = λ name repository. flat_map ended (inner_lines Two c.args.tenant.now name repository) in
    on_ok_weaker c.put_inner.result (λ put. line_then (g.W.Sink.contents c.args.writer.now) (g.W.Sink.contents c.put_inner.new.writer) c.args.waiting.now grown c.put_inner.new.waiting (ended (offer_line c.receiver.result.now c.name.result.now)) (inner c.name-2.result.now c.repository.result.now)
    (flat_map ended (offer_lines Two c.args.tenant.now offer)) refl c.in_ok-put_offer_line.ensures put
    (λ i. ended (offer_line (c.receiver.ensures.receiver i) (c.name.ensures.name i)) ++ inner (c.name-2.ensures.name i) (c.repository.ensures i))) c.put_inner.ensures.puts
