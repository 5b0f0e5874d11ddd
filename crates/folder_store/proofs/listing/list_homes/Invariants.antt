use Rattle.std.proofs.Common.{◌≡◌, IsTrue}
use Rattle.std.specs.FinMap as map
use Rattle.devices.specs.Device.{files_of}
use Rattle.folder_store.specs.Listing.{names_below}
use Rattle.folder_store.proofs.listing.list_homes.Given as goal

-- the names of the homes so far
abbrev pub invariant-loop-first : goal.invariant-loop-first
invariant-loop-first g l = IsTrue (g.D.Device.honest l.fn.device) → l.names.items ≡ names_below l.first (map.keys (files_of (g.D.Device.past l.fn.device)))
