use Rattle.std.proofs.Common.{subst}
use Rattle.fork_model.specs.Runs.{HostAsks}
use Rattle.fork_host.specs.Shown.{HostState, state_of}
use Rattle.fork_host.specs.Step.{IsStep}
use Rattle.fork_host.proofs.StepLemmas.{tended_step}
use Rattle.fork_host.proofs.TendingLemmas.{whole_tended}
use Rattle.fork_host.proofs.host.Host.host_answer.Goals as goal

pub invariant_of-self : goal.invariant_of-self
invariant_of-self g c = whole_tended c.self.inside.accounts c.self.inside.vault c.tend.new.vault c.tend.ensures.shape c.tend.ensures.tends.kept c.tend.ensures.tends.honest c.self.invariant

pub returns : goal.returns
returns g c =
    let accounts = c.self.inside.accounts in
    subst (λ (s : HostState). IsStep s (HostAsks c.args.request) c.tend.result (state_of accounts c.tend.new.vault)) c.self.view_is
    (tended_step accounts c.self.inside.vault c.tend.new.vault c.args.request c.tend.result c.tend.ensures.says c.tend.ensures.tends c.tend.ensures.shape c.tend.ensures.faults c.tend.ensures.bounds c.self.invariant)
