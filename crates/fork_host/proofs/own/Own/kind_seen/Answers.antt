use Rattle.std.proofs.Common.{ap, ◌∙◌}
use Rattle.fork_ledger.specs.Private.{kind_seen}
use Rattle.fork_ledger.specs.Tenants.{private_of}
use Rattle.fork_ledger.proofs.HeldLemmas.{kind_visible}
use Rattle.fork_host.proofs.own.Own.kind_seen.Goals as goal

pub returns : goal.returns
returns g c = c.seen_kind.ensures ∙ ap kind_seen c.kind_of.ensures ∙ kind_visible (private_of c.args.self.now.vault.now.tenants c.args.self.now.tenant.now) c.args.name
