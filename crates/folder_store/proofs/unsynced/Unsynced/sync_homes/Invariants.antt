use Rattle.std.proofs.Common.{◌≡◌, ◌<◌, ℕ, false, IsTrue, slice_index_or}
use Rattle.folder_store.specs.Contents.{contents_in}
use Rattle.folder_store.specs.Synced.{SyncsHomes}
use Rattle.folder_store.proofs.unsynced.Unsynced.sync_homes.Given as goal

-- so far only folders were synced, and those up to here are not marked
abbrev pub invariant-loop-first : goal.invariant-loop-first
invariant-loop-first g l =
    (contents_in (g.D.Device.honest l.device) (g.D.Device.past l.device) ≡ contents_in (g.D.Device.honest l.fn.device) (g.D.Device.past l.fn.device)) × (g.D.Device.honest l.device ≡ g.D.Device.honest l.fn.device)
    × (l.self.names ≡ l.fn.self.names) × (l.self.has_failed ≡ l.fn.self.has_failed)
    × (IsTrue (g.D.Device.honest l.fn.device) → l.self.has_failed ≡ false → SyncsHomes l.fn.self.homes l.self.homes (g.D.Device.past l.fn.device) (g.D.Device.past l.device))
    × ((first : ℕ) → first < l.first → slice_index_or l.self.homes first false ≡ false)
