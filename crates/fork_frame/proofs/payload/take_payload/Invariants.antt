use Rattle.std.proofs.Common.{◌≤◌, ◌-◌, length}
use Rattle.std.specs.Io.KnownBytes.{Consumes}
use Rattle.fork_frame.proofs.payload.take_payload.Given as goal

-- the bytes so far were taken
abbrev pub invariant-loop-bytes : goal.invariant-loop-bytes
invariant-loop-bytes g l = (length l.bytes.items ≤ l.fn.len) × Consumes (g.R.Read.remaining l.fn.reader) (g.R.Read.remaining l.reader) l.bytes.items

abbrev pub decreases-loop-bytes : goal.decreases-loop-bytes
decreases-loop-bytes g l = l.fn.len - length l.bytes.items
