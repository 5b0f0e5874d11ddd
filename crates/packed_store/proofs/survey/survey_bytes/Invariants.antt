use Rattle.std.proofs.Common.{◌-◌, ◌≤◌, IsTrue}
use Rattle.devices.specs.Device.{files_of}
use Rattle.packed_store.specs.Stored.{AllWritten}
use Rattle.packed_store.specs.Place.{segment_of}
use Rattle.packed_store.specs.Survey.{shown_in}
use Rattle.packed_store.specs.Taking.{Reads, seen_in}
use Rattle.packed_store.proofs.survey.survey_bytes.Given as goal

abbrev pub invariant-loop-at : goal.invariant-loop-at
invariant-loop-at g l = (l.at ≤ l.end)
    × (IsTrue (g.D.Device.honest l.fn.device)
    → AllWritten (files_of (g.D.Device.past l.fn.device)) (shown_in l.fn.found.live.entries l.fn.found.pending.entries)
    → AllWritten (files_of (g.D.Device.past l.fn.device)) (shown_in l.found.live.entries l.found.pending.entries))
    × (IsTrue (g.D.Device.honest l.fn.device)
    → Reads (segment_of (files_of (g.D.Device.past l.fn.device)) l.segment) l.segment 0 (seen_in l.fn.found.live.entries l.fn.found.pending.entries l.fn.found.is_damaged)
    (seen_in l.found.live.entries l.found.pending.entries l.found.is_damaged) l.at)

abbrev pub decreases-loop-at : goal.decreases-loop-at
decreases-loop-at g l = l.end - l.at
