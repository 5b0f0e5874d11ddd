use Rattle.std.proofs.Common.{◌≡◌, ◌+◌, false, IsTrue}
use Rattle.indexmap.specs.IndexSet.{contains, index_set_len}
use Rattle.git_name.specs.Same.{same_name}
use Rattle.folder_store.specs.Contents.{contents_in}
use Rattle.folder_store.specs.Synced.{SyncsFiles}
use Rattle.folder_store.proofs.unsynced.Unsynced.sync_files.Given as goal

-- so far one file was synced each time
abbrev pub invariant-loop : goal.invariant-loop
invariant-loop g l =
    (contents_in (g.D.Device.honest l.device) (g.D.Device.past l.device) ≡ contents_in (g.D.Device.honest l.fn.device) (g.D.Device.past l.fn.device)) × (g.D.Device.honest l.device ≡ g.D.Device.honest l.fn.device)
    × (index_set_len l.self.names + l.counter ≡ index_set_len l.fn.self.names) × (l.self.has_failed ≡ l.fn.self.has_failed)
    × (IsTrue (g.D.Device.honest l.fn.device) → l.self.has_failed ≡ false
    → SyncsFiles (contains same_name l.fn.self.names) (contains same_name l.self.names) l.fn.self.homes l.self.homes (g.D.Device.past l.fn.device) (g.D.Device.past l.device))
