use Rattle.std.proofs.Common.{sym, ap, ◌∙◌}
use Rattle.std.specs.FinMap.{len}
use Rattle.fork_host.specs.Shown.{state_of, world_of}
use Rattle.fork_host.proofs.WorldLemmas.{len_world}
use Rattle.fork_host.proofs.host.Host.tenants.Goals as goal

pub returns : goal.returns
returns g c = c.len.ensures ∙ sym (len_world (state_of c.self.inside.accounts c.self.inside.vault)) ∙ ap (λ s. len (world_of s)) c.self.view_is
