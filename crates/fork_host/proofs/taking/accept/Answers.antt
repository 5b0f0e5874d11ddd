use Rattle.fork_host.proofs.taking.accept.Goals as goal

pub returns-clause-taken : goal.returns-clause-taken
returns-clause-taken g c was here = record { told = c.done.ensures; set = c.set_references.ensures was here; seen = c.publish.ensures.seen }
