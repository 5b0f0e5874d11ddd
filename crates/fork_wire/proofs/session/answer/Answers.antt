use Rattle.fork_wire.proofs.session.answer.Goals as goal

pub returns-in-Tenant : goal.returns-in-Tenant
returns-in-Tenant g c = rw (c.in-Tenant.is, ← c.as_bytes-payload.ensures, ← c.read.ensures) c.answer.ensures
