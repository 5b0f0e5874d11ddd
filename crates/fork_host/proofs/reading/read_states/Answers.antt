use Rattle.std.proofs.Common.{arith, refl, subst, ◌∙◌}
use Rattle.fork_host.specs.Read.{Reads}
use Rattle.fork_host.proofs.ReadingLemmas.{states_all, states_more, states_none}
use Rattle.fork_host.proofs.reading.read_states.Goals as goal

pub loop-state-init : goal.loop-state-init
loop-state-init g c = record {
  read = states_none c.args.survey.now.honest c.args.survey.now.contents c.new-readings.result c.new-readings.ensures;
  kept = λ h. refl;
  honest = refl;
  failures = refl;
}

pub loop-state-preserved : goal.loop-state-preserved
loop-state-preserved g c =
    let first = c.args.survey.now in
    let mid = c.loop-state.survey in
    let before = c.loop-state.invariant in
    let told = c.read_seen.ensures in
    let state = c.state-item.result in
    record {
      read = states_more first.honest mid.honest first.contents mid.contents c.args.states.now c.loop-state.state-index state c.loop-state.readings c.read_seen.new.readings
          before.honest before.kept c.loop-state-test.true c.state-item.is
          (subst (λ names. Reads mid.honest mid.contents names c.loop-state.readings c.read_seen.new.readings) c.seen.ensures c.in_ok-read_seen.ensures.reads) before.read;
      kept = λ h. told.kept (before.honest ∙ h) ∙ before.kept h;
      honest = told.honest ∙ before.honest;
      failures = c.in_ok-read_seen.ensures.failures ∙ before.failures;
    }

pub returns-clause-read : goal.returns-clause-read
returns-clause-read g c =
    states_all c.args.survey.now.honest c.args.survey.now.contents c.args.states.now c.loop-state.state-index c.loop-state.readings (omega arith) c.loop-state.invariant.read
