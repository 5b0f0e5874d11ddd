use Rattle.std.proofs.Common.{◌≡◌, ◌≤◌, ◌++◌, ℕ, length, []}
use Rattle.push_stream.specs.Spelling.{records_of}
use Rattle.push_stream.specs.Stream.{behind, records_in}
use Rattle.push_stream.proofs.gaining.whole_records.Given as goal

-- the objects so far, and then those of what is left, are those of the text; and their records precede what is left
abbrev pub invariant-loop-alloc : goal.invariant-loop-alloc
invariant-loop-alloc l = (most : ℕ) × (length l.left ≤ most) × (records_in (length l.fn.text) l.fn.text ≡ behind [] l.objects.items (records_in most l.left)) × (l.fn.text ≡ records_of l.objects.items ++ l.left)

abbrev pub decreases-loop-alloc : goal.decreases-loop-alloc
decreases-loop-alloc l = length l.left
