use Rattle.std.proofs.Common.{◌≡◌, ℕ, List, None, false, drop, IsTrue}
use Rattle.std.specs.FinMap as map
use Rattle.devices.specs.Device.{files_of}
use Rattle.git_name.specs.Name.{IsName}
use Rattle.git_name.specs.Same.{is_one_of}
use Rattle.folder_store.specs.Lasting.{AllSafe}
use Rattle.folder_store.specs.Place.{swept_of}
use Rattle.folder_store.specs.Swept.{OpenAlike}
use Rattle.folder_store.proofs.swept.put_all_back.Given as goal

-- so far nothing changes for the next opening, and the names of the swept files that are left are among those to come
abbrev pub invariant-loop-name : goal.invariant-loop-name
invariant-loop-name g l =
    (g.D.Device.honest l.device ≡ g.D.Device.honest l.fn.device)
    × (IsTrue (g.D.Device.honest l.fn.device) → OpenAlike (files_of (g.D.Device.past l.fn.device)) (files_of (g.D.Device.past l.device)))
    × (IsTrue (g.D.Device.honest l.fn.device) → (q : List ℕ) → IsName q → is_one_of (drop l.name-index l.name-items) q ≡ false → map.get (files_of (g.D.Device.past l.device)) (swept_of q) ≡ None)
    × (IsTrue (g.D.Device.honest l.fn.device) → AllSafe (g.D.Device.past l.fn.device) (g.D.Device.past l.device))
