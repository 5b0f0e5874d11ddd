use Rattle.std.proofs.Common.{refl}
use Rattle.std.specs.List.{flat_map}
use Rattle.std.proofs.lemmas.Result.{on_ok_weaker}
use Rattle.git_name.specs.Text.{ended}
use Rattle.state_text.specs.declared.version.Version.TheVariants.{Two}
use Rattle.state_text.specs.Text.{inner_lines, repository_line, repository_lines}
use Rattle.state_text.proofs.WritingLemmas.{line_then}
use Rattle.state_text.proofs.writing.put_repository.Goals as goal

pub returns-clause-puts : goal.returns-clause-puts
returns-clause-puts g c =
    let grown = record c.args.waiting.now { lines = c.put_repository_line.new.out } in
    let name = c.args.name.now in
    let repository = c.args.repository.now in
    on_ok_weaker c.put_inner.result (λ put. line_then (g.W.Sink.contents c.args.writer.now) (g.W.Sink.contents c.put_inner.new.writer) c.args.waiting.now grown c.put_inner.new.waiting (ended (repository_line name)) (flat_map ended (inner_lines Two c.args.tenant.now name repository))
    (flat_map ended (repository_lines Two c.args.tenant.now (name, repository))) refl c.in_ok-put_repository_line.ensures put refl) c.put_inner.ensures.puts
