use Rattle.std.proofs.Common.{length}
use Rattle.devices.proofs.loss.+paths_in.Given as goal

abbrev pub decreases-paths_in : goal.decreases-paths_in
decreases-paths_in l = length l.notes.now
