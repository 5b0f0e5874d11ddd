use Rattle.std.proofs.Common.{◌≡◌, ◌≤◌, ℕ, length, []}
use Rattle.push_stream.specs.Stream.{behind, records_in}
use Rattle.push_stream.proofs.body.read_records.Given as goal

-- the objects so far, and then those of what is left, are those of the text
abbrev pub invariant-loop-left : goal.invariant-loop-left
invariant-loop-left l = (most : ℕ) × (length l.left ≤ most) × (records_in (length l.fn.text) l.fn.text ≡ behind [] l.sent.items (records_in most l.left))

abbrev pub decreases-loop-left : goal.decreases-loop-left
decreases-loop-left l = length l.left
