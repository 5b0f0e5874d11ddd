use Rattle.std.proofs.Common.{length}
use Rattle.devices.proofs.bytes_left.+left_bytes.Given as goal

abbrev pub decreases-left_bytes : goal.decreases-left_bytes
decreases-left_bytes l = length l.notes.now
