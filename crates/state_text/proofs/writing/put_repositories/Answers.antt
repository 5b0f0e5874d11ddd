use Rattle.std.proofs.Common.{◌∙◌}
use Rattle.state_text.specs.declared.version.Version.TheVariants.{Two}
use Rattle.state_text.specs.Text.{repository_lines}
use Rattle.state_text.proofs.WritingLemmas.{row_put}
use Rattle.state_text.proofs.writing.put_repositories.Goals as goal

pub loop-name-preserved : goal.loop-name-preserved
loop-name-preserved g c =
    record {
      puts = row_put (repository_lines Two c.args.tenant.now) c.args.repositories.now c.loop-name-item.result c.loop-name.name-index (g.W.Sink.contents c.args.writer.now) (g.W.Sink.contents c.loop-name.writer) (g.W.Sink.contents c.put_repository.new.writer) c.args.waiting.now c.loop-name.waiting c.put_repository.new.waiting
          c.loop-name-test.true c.loop-name-item.is c.loop-name.invariant.puts c.in_ok-put_repository.ensures.puts;
      rest = c.put_repository.ensures.rest ∙ c.loop-name.invariant.rest;
    }
