use Rattle.std.proofs.Common.{length}
use Rattle.devices.proofs.bytes_left.+seen_bytes.Given as goal

abbrev pub decreases-seen_bytes : goal.decreases-seen_bytes
decreases-seen_bytes l = length l.notes.now
