use Rattle.std.proofs.Common.{length}
use Rattle.devices.proofs.kept.+is_synced.Given as goal

abbrev pub decreases-is_synced : goal.decreases-is_synced
decreases-is_synced l = length l.whole.now
