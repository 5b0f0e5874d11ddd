use Rattle.fork_program.proofs.HostingLemmas.{kept_host, ungiven_kept, unsaved}
use Rattle.fork_program.proofs.hosts.host_in_folder.Goals as goal

pub returns-in-Ok-clause-ok : goal.returns-in-Ok-clause-ok
returns-in-Ok-clause-ok g c = kept_host c.args.hosting c.in_ok-restored.restored c.in-Ok.restored c.in-Ok.restored c.requires c.in-Ok.ensures.ok (unsaved _)

pub returns-in-Err-clause-err : goal.returns-in-Err-clause-err
returns-in-Err-clause-err g c = ungiven_kept _ c.in_ok-restored.restored _ c.requires c.in-Err.ensures.err
