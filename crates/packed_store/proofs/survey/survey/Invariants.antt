use Rattle.std.proofs.Common.{◌≡◌, ◌≤◌, ◌<◌, ℕ, false, IsTrue, drop, length, map as each}
use Rattle.devices.specs.Device.{files_of}
use Rattle.packed_store.specs.Opening.{AreNumbersWithin, Surveys, listed}
use Rattle.packed_store.specs.Place.{segment_of}
use Rattle.packed_store.specs.Stored.{AllWritten}
use Rattle.packed_store.specs.Survey.{Shown, shown_in}
use Rattle.packed_store.proofs.survey.survey.Given as goal

abbrev pub invariant-loop-called : goal.invariant-loop-called
invariant-loop-called g l = (IsTrue (g.D.Device.honest l.fn.device) → l.last.is_torn ≡ false → length (segment_of (files_of (g.D.Device.past l.fn.device)) l.last.segment) ≡ l.last.end)
    × (IsTrue (g.D.Device.honest l.fn.device)
    → AllWritten (files_of (g.D.Device.past l.fn.device)) (shown_in l.fn.found.live.entries l.fn.found.pending.entries)
    → AllWritten (files_of (g.D.Device.past l.fn.device)) (shown_in l.found.live.entries l.found.pending.entries))
    × (IsTrue (g.D.Device.honest l.fn.device)
    → (last : Shown) → Surveys (files_of (g.D.Device.past l.fn.device)) (each (λ called. called.items) (drop l.called-index l.called-items)) (shown_in l.found.live.entries l.found.pending.entries) last
    → Surveys (files_of (g.D.Device.past l.fn.device)) (listed (files_of (g.D.Device.past l.fn.device))) (shown_in l.fn.found.live.entries l.fn.found.pending.entries) last)
    × (IsTrue (g.D.Device.honest l.fn.device)
    → (lo hi : ℕ) → lo ≤ l.first → l.last.segment ≤ hi → AreNumbersWithin (each (λ called. called.items) (drop l.called-index l.called-items)) lo hi
    → AreNumbersWithin (listed (files_of (g.D.Device.past l.fn.device))) lo hi)
    × (l.last.is_torn ≡ false → 0 < l.last.segment)
