use Rattle.std.proofs.Common.{subst}
use Rattle.fork_request.specs.Asked.{ask_of}
use Rattle.fork_model.specs.Runs.{Asks}
use Rattle.fork_host.specs.Shown.{HostState, state_of}
use Rattle.fork_host.specs.Step.{IsStep}
use Rattle.fork_host.proofs.StepLemmas.{answered_step}
use Rattle.fork_host.proofs.host.Host.answer.Goals as goal

pub returns : goal.returns
returns g c =
    let old = state_of c.self.inside.accounts c.self.inside.vault in
    let new = state_of c.answer.new.self c.answer.new.vault in
    let ask = ask_of c.args.request in
    subst (λ (s : HostState). IsStep s (Asks c.args.name.now ask) c.answer.result new) c.self.view_is
    (answered_step old new c.args.name.now ask c.answer.result c.answer.ensures.explained c.answer.ensures.whole c.answer.ensures.trusted c.answer.ensures.kept c.answer.ensures.others c.answer.ensures.offers c.answer.ensures.forked c.answer.ensures.takes c.answer.ensures.named c.answer.ensures.seen c.answer.ensures.faults c.answer.ensures.grows)
