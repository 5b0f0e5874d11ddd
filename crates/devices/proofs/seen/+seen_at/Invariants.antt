use Rattle.std.proofs.Common.{length}
use Rattle.devices.proofs.seen.+seen_at.Given as goal

abbrev pub decreases-seen_at : goal.decreases-seen_at
decreases-seen_at l = length l.notes.now
