use Rattle.std.proofs.Common.{refl}
use Rattle.fork_program.proofs.HostingLemmas.{ungiven_new}
use Rattle.fork_program.proofs.hosts.host_in_memory.Goals as goal

pub returns-in-Err-clause-err : goal.returns-in-Err-clause-err
returns-in-Err-clause-err g c = ungiven_new _ c.in-Ok-new.host _ (c.in-Ok-new.ensures.trusted refl) c.in-Ok-new.ensures.empty c.in-Err.ensures.err
