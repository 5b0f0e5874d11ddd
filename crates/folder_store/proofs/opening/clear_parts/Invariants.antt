use Rattle.std.proofs.Common.{◌≡◌, IsTrue}
use Rattle.devices.specs.Device.{files_of}
use Rattle.folder_store.specs.Lasting.{AllSafe}
use Rattle.folder_store.specs.Swept.{OpenAlike}
use Rattle.folder_store.proofs.opening.clear_parts.Given as goal

-- so far nothing changes for the next opening, and each file lasts as it did
abbrev pub invariant-loop-first : goal.invariant-loop-first
invariant-loop-first g l =
    (IsTrue (g.D.Device.honest l.fn.device) → AllSafe (g.D.Device.past l.fn.device) (g.D.Device.past l.device)) × (IsTrue (g.D.Device.honest l.fn.device) → OpenAlike (files_of (g.D.Device.past l.fn.device)) (files_of (g.D.Device.past l.device))) × (g.D.Device.honest l.device ≡ g.D.Device.honest l.fn.device)
