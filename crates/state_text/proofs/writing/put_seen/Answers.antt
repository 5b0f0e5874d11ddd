use Rattle.std.proofs.Common.{refl, ◌∙◌}
use Rattle.git_name.specs.Text.{ended}
use Rattle.state_text.specs.Text.{seen_line}
use Rattle.state_text.proofs.WritingLemmas.{line_put, line_settled}
use Rattle.state_text.proofs.writing.put_seen.Goals as goal

pub loop-name-preserved : goal.loop-name-preserved
loop-name-preserved g c =
    let grown = record c.loop-name.waiting { lines = c.put_seen_line.new.out } in
    record {
      puts = line_put seen_line c.args.names.now c.name-item.result c.loop-name.name-index (g.W.Sink.contents c.args.writer.now) (g.W.Sink.contents c.loop-name.writer) (g.W.Sink.contents c.settle.new.writer) c.args.waiting.now c.loop-name.waiting c.settle.new.self
          c.loop-name-test.true c.name-item.is c.loop-name.invariant.puts
          (line_settled (g.W.Sink.contents c.loop-name.writer) (g.W.Sink.contents c.settle.new.writer) c.loop-name.waiting grown c.settle.new.self (ended (seen_line c.name-item.result)) refl c.in_ok-put_seen_line.ensures c.in_ok-settle.ensures.puts);
      rest = c.settle.ensures.rest ∙ c.loop-name.invariant.rest;
    }
