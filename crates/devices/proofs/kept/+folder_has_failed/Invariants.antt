use Rattle.std.proofs.Common.{length}
use Rattle.devices.proofs.kept.+folder_has_failed.Given as goal

abbrev pub decreases-folder_has_failed : goal.decreases-folder_has_failed
decreases-folder_has_failed l = length l.notes.now
