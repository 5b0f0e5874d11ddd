use Rattle.std.proofs.Common.{◌∙◌}
use Rattle.fork_host.proofs.ReadingLemmas.{reads_more}
use Rattle.fork_host.proofs.reading.read_seen.Goals as goal

pub loop-name-preserved : goal.loop-name-preserved
loop-name-preserved g c =
    let first = c.args.survey.now in
    let mid = c.loop-name.survey in
    let before = c.loop-name.invariant in
    let told = c.read_new.ensures in
    record {
      reads = reads_more first.honest mid.honest first.contents mid.contents c.args.names.now c.loop-name.name-index c.name-item.result c.args.readings.now c.loop-name.readings c.read_new.new.readings
          before.honest before.kept c.loop-name-test.true c.name-item.is c.in_ok-read_new.ensures.reads before.reads;
      kept = λ h. told.kept (before.honest ∙ h) ∙ before.kept h;
      honest = told.honest ∙ before.honest;
      failures = c.in_ok-read_new.ensures.failures ∙ before.failures;
    }
