use Rattle.std.proofs.Common.{length}
use Rattle.devices.proofs.tree.+copied_among.Given as goal

abbrev pub decreases-copied_among : goal.decreases-copied_among
decreases-copied_among l = length l.paths.now
