use Rattle.std.proofs.Common.{ap, subst, ◌∙◌}
use Rattle.fork_model.specs.Sound.{IsAlike}
use Rattle.fork_host.specs.Shown.{HostState, state_of, world_of}
use Rattle.fork_host.proofs.WholeLemmas.{alike_of}
use Rattle.fork_host.proofs.host.Host.invariant.Goals as goal

pub returns-clause-alike : goal.returns-clause-alike
returns-clause-alike g c trusted =
    subst (λ (s : HostState). IsAlike (world_of s)) c.self.view_is
    (alike_of (state_of c.self.inside.accounts c.self.inside.vault) (c.invariant.ensures.one (ap (λ s. s.vault.honest) c.self.view_is ∙ trusted)))
