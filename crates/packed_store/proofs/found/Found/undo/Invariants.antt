use Rattle.std.proofs.Common.{◌≡◌, length}
use Rattle.packed_store.specs.Survey.{opened, shown_in}
use Rattle.packed_store.proofs.found.Found.undo.Given as goal

abbrev pub invariant-loop-last : goal.invariant-loop-last
invariant-loop-last l = (opened (shown_in l.self.live.entries l.self.pending.entries) ≡ opened (shown_in l.fn.self.live.entries l.fn.self.pending.entries))
    × (l.self.is_damaged ≡ l.fn.self.is_damaged)

abbrev pub decreases-loop-last : goal.decreases-loop-last
decreases-loop-last l = length l.self.pending.entries
