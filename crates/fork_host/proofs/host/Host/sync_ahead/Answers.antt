use Rattle.std.proofs.Common.{ap, subst}
use Rattle.fork_host.specs.Shown.{HostState, IsSameHost, state_of}
use Rattle.fork_host.proofs.SameHostLemmas.{whole_still}
use Rattle.fork_host.proofs.host.Host.sync_ahead.Goals as goal

pub invariant_of-self : goal.invariant_of-self
invariant_of-self g c = whole_still c.self.inside.accounts c.self.inside.vault c.sync_ahead.new.self c.sync_ahead.ensures.same c.self.invariant

pub returns-clause-same : goal.returns-clause-same
returns-clause-same g c =
    subst (λ (s : HostState). IsSameHost s (state_of c.self.inside.accounts c.sync_ahead.new.self)) c.self.view_is (ap (state_of c.self.inside.accounts) c.sync_ahead.ensures.same)
