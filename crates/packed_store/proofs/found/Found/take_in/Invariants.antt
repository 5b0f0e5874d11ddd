use Rattle.std.proofs.Common.{◌≤◌, length}
use Rattle.devices.specs.Device.{Files}
use Rattle.packed_store.specs.Stored.{AllWritten, IsPart}
use Rattle.packed_store.specs.Survey.{shown_in}
use Rattle.packed_store.specs.Taking.{Reads, seen_in}
use Rattle.packed_store.proofs.found.Found.take_in.Given as goal

abbrev pub invariant-loop : goal.invariant-loop
invariant-loop l = (l.at ≤ length l.bytes)
    × ((files : Files) → IsPart files l.segment l.from l.bytes → AllWritten files (shown_in l.fn.self.live.entries l.fn.self.pending.entries) → AllWritten files (shown_in l.self.live.entries l.self.pending.entries))
    × Reads l.bytes l.segment l.from (seen_in l.fn.self.live.entries l.fn.self.pending.entries l.fn.self.is_damaged) (seen_in l.self.live.entries l.self.pending.entries l.self.is_damaged) l.at
    × (l.counter ≤ l.at)
