use Rattle.std.proofs.Common.{◌≡◌, ◌++◌, drop, map}
use Rattle.folder_store.specs.Listing.{names_called}
use Rattle.folder_store.proofs.listing.add_names.Given as goal

-- the names so far, and then those of what is left
abbrev pub invariant-loop-called : goal.invariant-loop-called
invariant-loop-called l =
    l.names.items ++ names_called l.front (map (λ called. called.items) (drop l.called-index l.listing)) ≡ l.fn.names.items ++ names_called l.front (map (λ called. called.items) l.listing)
