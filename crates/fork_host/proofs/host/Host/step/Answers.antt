use Rattle.fork_host.proofs.host.Host.step.Goals as goal

pub returns-in-Tenant : goal.returns-in-Tenant
returns-in-Tenant g c = rw c.in-Tenant.is c.answer.ensures
