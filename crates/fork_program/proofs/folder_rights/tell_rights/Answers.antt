use Rattle.fork_program.specs.Causes.{Open}
use Rattle.fork_program.proofs.folder_rights.tell_rights.Goals as goal

pub returns-in-Ok : goal.returns-in-Ok
returns-in-Ok g c = record { told = Open _ _ c.in-Some.ensures c.in-Some-open_mode.ensures c.in-Ok.ensures.ok }
