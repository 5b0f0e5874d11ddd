use Rattle.std.proofs.Common.{List, ℕ, ◌++◌, ◌∙◌, map, refl, subst}
use Rattle.std.specs.List.{flat_map}
use Rattle.std.proofs.lemmas.Result.{on_ok_weaker}
use Rattle.git_name.specs.Text.{ended}
use Rattle.git_reftx.specs.Repository as git
use Rattle.state_text.specs.declared.version.Version.TheVariants.{Two}
use Rattle.state_text.specs.Offer.{Offer}
use Rattle.state_text.specs.Text.{offer_lines, repository_lines, seen_line, tenant_line}
use Rattle.state_text.specs.Writing.{Puts}
use Rattle.state_text.proofs.WritingLemmas.{tenant_put}
use Rattle.state_text.proofs.writing.put_tenant.Goals as goal

pub returns-clause-puts : goal.returns-clause-puts
returns-clause-puts g c =
    let grown = record c.args.waiting.now { lines = c.put_tenant_line.new.out } in
    let held : List ℕ → List (List ℕ × git.Repository) → List ℕ = λ name repositories. flat_map ended (flat_map (repository_lines Two name) repositories) in
    let made : List ℕ → List Offer → List ℕ = λ name offers. flat_map ended (flat_map (offer_lines Two name) offers) in
    on_ok_weaker c.put_offers.result (λ put. tenant_put (g.W.Sink.contents c.args.writer.now) (g.W.Sink.contents c.put_repositories.new.writer) (g.W.Sink.contents c.put_seen.new.writer) (g.W.Sink.contents c.put_offers.new.writer) c.args.waiting.now grown c.put_repositories.new.waiting c.put_seen.new.waiting c.put_offers.new.waiting c.args.tenant.now refl
    (c.in_ok-put_tenant_line.ensures ∙ (λ i. c.args.waiting.now.lines.items ++ ended (tenant_line (c.name.ensures.name i) (c.limit.ensures i))))
    (subst (Puts (g.W.Sink.contents c.args.writer.now) (g.W.Sink.contents c.put_repositories.new.writer) grown c.put_repositories.new.waiting) (λ i. held (c.name-2.ensures.name i) (c.repositories.ensures i)) c.in_ok-put_repositories.ensures.puts)
    (subst (λ names. Puts (g.W.Sink.contents c.put_repositories.new.writer) (g.W.Sink.contents c.put_seen.new.writer) c.put_repositories.new.waiting c.put_seen.new.waiting (flat_map ended (map seen_line names))) c.seen.ensures c.in_ok-put_seen.ensures.puts)
    (subst (Puts (g.W.Sink.contents c.put_seen.new.writer) (g.W.Sink.contents c.put_offers.new.writer) c.put_seen.new.waiting c.put_offers.new.waiting) (λ i. made (c.name-3.ensures.name i) (c.offers.ensures i)) put)) c.put_offers.ensures.puts
