use Rattle.fork_host.specs.Shown.{state_of, world_of}
use Rattle.fork_host.proofs.tending.tend.Goals as goal

pub returns-in-Sweep-clause-says : goal.returns-in-Sweep-clause-says
returns-in-Sweep-clause-says g c = rw c.in-Sweep.is (c.sweep.ensures.says (world_of (state_of c.args.accounts.now c.args.vault.now)))
