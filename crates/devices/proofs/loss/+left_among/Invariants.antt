use Rattle.std.proofs.Common.{length}
use Rattle.devices.proofs.loss.+left_among.Given as goal

abbrev pub decreases-left_among : goal.decreases-left_among
decreases-left_among l = length l.paths.now
