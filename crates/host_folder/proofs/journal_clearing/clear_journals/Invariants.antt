use Rattle.std.proofs.Common.{◌≡◌, IsTrue, map as each}
use Rattle.devices.specs.Device.{files_of}
use Rattle.host_folder.specs.Journal.{ClearsBy}
use Rattle.host_folder.proofs.ClearingLemmas.{IsClearBut}
use Rattle.host_folder.proofs.journal_clearing.clear_journals.Given as goal

-- only files beside the journal were removed so far, and of those that a host wrote only names that are left are still there
abbrev pub invariant-loop-called : goal.invariant-loop-called
invariant-loop-called g l =
    (g.D.Device.honest l.device ≡ g.D.Device.honest l.fn.device) × (IsTrue (g.D.Device.honest l.fn.device) → ClearsBy l.is_there l.fn.name (g.D.Device.past l.fn.device) (g.D.Device.past l.device))
    × (IsTrue (g.D.Device.honest l.fn.device) → IsClearBut l.is_there l.fn.name (files_of (g.D.Device.past l.fn.device)) (files_of (g.D.Device.past l.device)) (each (λ called. called.items) l.called-iterator.rest.items))
