use Rattle.std.proofs.Common.{length}
use Rattle.devices.proofs.bytes_left.+has_failed.Given as goal

abbrev pub decreases-has_failed : goal.decreases-has_failed
decreases-has_failed l = length l.notes.now
